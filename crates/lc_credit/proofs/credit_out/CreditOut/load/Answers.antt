use Rattle.std.proofs.Common.{rules, ◌∙◌}
use Rattle.lc_credit.proofs.Histories.{used_same, returned_same, last_use_same}
use Rattle.lc_credit.proofs.Seats.{may_load_out, sending_is}
use Rattle.lc_credit.proofs.Kept.{learns_out}
use Rattle.lc_credit.proofs.credit_out.CreditOut.load.Goals as goal

pub load-requires : goal.load-requires
load-requires c = (search rules, search rules, may_load_out _ _ _ _ c.self.invariant.2)

pub invariant_of-self : goal.invariant_of-self
invariant_of-self c =
    let e = c.load.ensures.2 in
    let knows = e.learns.knows in
    (search rules, search rules, record { view = sending_is _ _ _ e.view; slots = e.slots ∙ c.self.invariant.2.slots }, learns_out _ _ _ _ _ c.self.invariant.3 (used_same _ _ knows) (returned_same _ _ knows) (last_use_same _ _ knows))

pub returns-clause-kept : goal.returns-clause-kept
returns-clause-kept c =
    let knows = c.load.ensures.2.learns.knows in
    learns_out _ _ _ _ _ c.self.invariant.3 (used_same _ _ knows) (returned_same _ _ knows) (last_use_same _ _ knows)
