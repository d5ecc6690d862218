use Rattle.std.proofs.Common.{◌≡◌, rules, [], ◌++◌, ◌∙◌, ap, subst, take, append-nil, List, ℕ}
use Rattle.std.specs.Io.KnownBytes.{Consumes}
use Rattle.std.proofs.KnownBytes.{Consumes-nil, Consumes-trans}
use Rattle.lc_cli.proofs.Listings.{lists_nothing, lists_more, lists_kept, all_came}
use Rattle.lc_cli.proofs.listing.Listing.read.Goals as goal

pub loop-input-init : goal.loop-input-init
loop-input-init g c = (c.requires.start, c.requires.open, ([], (Consumes-nil _, lists_nothing _ _ c.stored-stored.ensures.settled)))

pub loop-input-preserved : goal.loop-input-preserved
loop-input-preserved g c =
    let (place, undecided, (came, (consumed, lists))) = c.loop-input.invariant in
    let kept = lists_kept _ _ came _ _ _ lists c.flush.ensures.bytes in
    (c.in_ok-take.ensures.within, c.in_ok-take.ensures.open, (came ++ take c.in_ok-count.count c.read_piece.new.piece, (Consumes-trans _ _ _ came _ consumed c.in_ok-count.ensures.bytes, lists_more _ _ _ came _ _ _ _ kept c.in_ok-take.ensures.lists)))

pub loop-input-smaller : goal.loop-input-smaller
loop-input-smaller g c = search rules

pub returns-then-count-eq0-clause-lists : goal.returns-then-count-eq0-clause-lists
returns-then-count-eq0-clause-lists g c =
    let (place, undecided, (came, (consumed, lists))) = c.loop-input.invariant in
    let kept = lists_kept _ _ came _ _ _ lists c.flush.ensures.bytes in
    let n : ℕ = c.in_ok-count.count in
    let piece : List ℕ = c.read_piece.new.piece in
    let zeroes : n ≡ 0 = c.if-count-eq0.true in
    let nothing : take n piece ≡ [] = ap (λ (k : ℕ). take k piece) zeroes in
    let whole = subst (λ (l : List ℕ). Consumes (g.R.Read.remaining c.args.input.now) (g.R.Read.remaining c.read_piece.new.input) l) (ap (λ (l : List ℕ). came ++ l) nothing ∙ append-nil came) (Consumes-trans _ _ _ came (take n piece) consumed c.in_ok-count.ensures.bytes) in
    all_came _ _ came _ whole (c.in_ok-count.ensures.end zeroes (search rules)) kept
