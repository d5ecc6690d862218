use Rattle.std.proofs.Common.{List, ℕ, Some, ap, ◌∙◌, arith, subst}
use Rattle.lc_ring.specs.Ring.{IsRing}
use Rattle.lc_ring.proofs.Cuts.{ring_is_kept, first_is_message}
use Rattle.lc_ring.proofs.ring.RecvRing.front.Goals as goal

pub returns-clause-whole : goal.returns-clause-whole
returns-clause-whole c = ap (λ (m : List ℕ). Some m) c.parts.ensures.whole ∙ c.in_ok-message.ensures

pub returns-clause-first : goal.returns-clause-first
returns-clause-first c =
    let kept = subst IsRing c.self.view_is (ring_is_kept c.self.inside.lengths c.self.inside.bytes c.self.inside.until_cut c.self.invariant) in
    let some = (first_is_message c.args.self.now c.in_ok-message.message.now kept c.in_ok-message.ensures).at_least in
    omega (arith, c.parts.ensures.cut, some, c.self.invariant.ahead.0)
