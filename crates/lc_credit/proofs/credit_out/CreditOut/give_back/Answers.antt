use Rattle.std.proofs.Common.{rules, Some, ap, sym, ◌∙◌}
use Rattle.lc_credit.proofs.Seats.{may_add_returned, sending_is}
use Rattle.lc_credit.proofs.Kept.{gives_back}
use Rattle.lc_credit.proofs.credit_out.CreditOut.give_back.Goals as goal

pub fetch_add-requires : goal.fetch_add-requires
fetch_add-requires c = (search rules, search rules, may_add_returned _ _ _ _ _ c.self.invariant.2 (c.self.invariant.3.last _ c.in-Some.is ∙ ap Some (sym c.from.ensures)))

pub invariant_of-self : goal.invariant_of-self
invariant_of-self c =
    let e = c.fetch_add.ensures.2 in
    (search rules, search rules, record { view = sending_is _ _ _ e.view; slots = e.slots ∙ c.self.invariant.2.slots }, gives_back _ _ _ _ _ c.self.invariant.3 _ _ c.from.ensures c.in-Some.is e.makes)

pub returns-clause-after : goal.returns-clause-after
returns-clause-after c = search rules
