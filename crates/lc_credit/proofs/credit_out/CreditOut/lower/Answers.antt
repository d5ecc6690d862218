use Rattle.std.proofs.Common.{rules, arith, ap, ◌∙◌}
use Rattle.lc_credit.proofs.Seats.{may_subtract_used, sending_is}
use Rattle.lc_credit.proofs.Kept.{uses}
use Rattle.lc_credit.proofs.credit_out.CreditOut.lower.Goals as goal

pub fetch_sub-requires : goal.fetch_sub-requires
fetch_sub-requires c =
    let now = ap (λ v. v.least) c.self.view_is in
    let enough = c.requires.enough in
    let n = c.from-amount.ensures in
    (search rules, search rules, may_subtract_used _ _ _ _ _ c.self.invariant.2 (omega arith))

pub invariant_of-self : goal.invariant_of-self
invariant_of-self c =
    let e = c.fetch_sub.ensures.2 in
    let idle = ap (λ v. v.pending) c.self.view_is ∙ c.requires.idle in
    let unfinished = ap (λ v. v.waived) c.self.view_is ∙ c.requires.unfinished in
    (search rules, search rules, record { view = sending_is _ _ _ e.view; slots = e.slots ∙ c.self.invariant.2.slots }, uses _ _ _ _ _ c.self.invariant.3 _ _ _ c.from-amount.ensures idle unfinished e.makes e.covered)

pub returns-clause-kept : goal.returns-clause-kept
returns-clause-kept c =
    let e = c.fetch_sub.ensures.2 in
    let idle = ap (λ v. v.pending) c.self.view_is ∙ c.requires.idle in
    let unfinished = ap (λ v. v.waived) c.self.view_is ∙ c.requires.unfinished in
    uses _ _ _ _ _ c.self.invariant.3 _ _ _ c.from-amount.ensures idle unfinished e.makes e.covered

pub returns-clause-after : goal.returns-clause-after
returns-clause-after c = search rules
