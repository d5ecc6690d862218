use Rattle.std.proofs.Common.{ℕ, sym, ap, ◌∙◌, subst, drop}
use Rattle.std.specs.Prelude.{slice_get}
use Rattle.lc_ring.specs.Laps.{IsTaken}
use Rattle.lc_ring.specs.Lengths.{Lengths}
use Rattle.lc_ring.proofs.Encodings.{taken-lengths}
use Rattle.lc_ring.proofs.lengths.Lengths.drop_front.Goals as goal

pub invariant_of-self : goal.invariant_of-self
invariant_of-self c =
    let l = c.self.inside.bytes in
    let first = c.requires ∙ sym (ap (λ (ls : Lengths). slice_get ls.items 0) c.self.view_is) in
    (taken-lengths l c.args.len c.self.invariant first c.take.new.self (subst (λ (n : ℕ). IsTaken n l c.take.new.self) c.encoded_len.ensures c.take.ensures)).0

pub returns : goal.returns
returns c =
    let l = c.self.inside.bytes in
    let first = c.requires ∙ sym (ap (λ (ls : Lengths). slice_get ls.items 0) c.self.view_is) in
    (taken-lengths l c.args.len c.self.invariant first c.take.new.self (subst (λ (n : ℕ). IsTaken n l c.take.new.self) c.encoded_len.ensures c.take.ensures)).1
    ∙ ap (λ (ls : Lengths). record ls { items = drop 1 ls.items }) c.self.view_is
