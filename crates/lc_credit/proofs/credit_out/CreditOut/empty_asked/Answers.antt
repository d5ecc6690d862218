use Rattle.std.proofs.Common.{rules, ◌∙◌}
use Rattle.lc_credit.proofs.Seats.{may_swap_asked, sending_is, used_as_before, returned_as_before, last_use_as_before}
use Rattle.lc_credit.proofs.Kept.{learns_out}
use Rattle.lc_credit.proofs.credit_out.CreditOut.empty_asked.Goals as goal

pub swap-requires : goal.swap-requires
swap-requires c = (search rules, search rules, may_swap_asked _ _ _ _ c.self.invariant.2)

pub invariant_of-self : goal.invariant_of-self
invariant_of-self c =
    let e = c.swap.ensures.2 in
    (search rules, search rules, record { view = sending_is _ _ _ e.view; slots = e.slots ∙ c.self.invariant.2.slots }, learns_out _ _ _ _ _ c.self.invariant.3 (used_as_before _ _ _ e.takes) (returned_as_before _ _ _ e.takes) (last_use_as_before _ _ _ e.takes))
