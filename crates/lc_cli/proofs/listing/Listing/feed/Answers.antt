use Rattle.std.proofs.Common.{arith, rules, ◌∙◌, ◌≡◌, ◌++◌, [], refl, ap, take, length, List, ℕ, append-nil}
use Rattle.std.proofs.lemmas.List.{length-drop, nil_from_length}
use Rattle.lc_cli.proofs.Listings.{lists_nothing, lists_more}
use Rattle.lc_cli.proofs.Written.{split-parts}
use Rattle.lc_cli.proofs.listing.Listing.feed.Goals as goal

pub loop-rest-init : goal.loop-rest-init
loop-rest-init g c = (refl, c.requires.open, ([], (refl, lists_nothing _ _ c.stored-stored.ensures.settled)))

pub loop-rest-preserved : goal.loop-rest-preserved
loop-rest-preserved g c =
    let (place, undecided, (front, (whole, lists))) = c.loop-rest.invariant in
    let n : ℕ = c.in_ok-taken.taken in
    let rest = c.loop-rest.rest.now in
    let piece : List ℕ = take n rest in (
      omega (arith, place, c.in_ok-taken.ensures.position, c.in_ok-taken.ensures.count, length-drop n rest, ap length c.split_at.ensures.back),
      c.in_ok-taken.ensures.open,
      (front ++ piece, (split-parts _ front rest piece c.split_at.result.1.now n whole refl c.split_at.ensures.back, lists_more _ _ _ front piece _ _ _ lists c.in_ok-taken.ensures.lists)),
    )

pub returns-clause-lists : goal.returns-clause-lists
returns-clause-lists g c =
    let (place, undecided, (front, (whole, lists))) = c.loop-rest.invariant in
    let none : length c.loop-rest.rest.now ≡ 0 = search (rules, c.loop-rest-test.ensures, c.loop-rest-test.false, c.is_empty.ensures) in
    let all : c.args.piece.now ≡ front = whole ∙ ap (λ (l : List ℕ). front ++ l) (nil_from_length c.loop-rest.rest.now none) ∙ append-nil front in
    rw all lists
