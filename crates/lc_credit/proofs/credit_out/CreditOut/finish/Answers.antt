use Rattle.std.proofs.Common.{rules, arith, ap, ◌∙◌}
use Rattle.lc_credit.proofs.Seats.{may_subtract_used, sending_is}
use Rattle.lc_credit.proofs.Kept.{waives}
use Rattle.lc_credit.proofs.credit_out.CreditOut.finish.Goals as goal

pub fetch_sub-requires : goal.fetch_sub-requires
fetch_sub-requires c =
    let all = ap (λ v. v.least) (c.self.view_is ∙ c.load-left.ensures.loads.after) in
    (search rules, search rules, may_subtract_used _ _ _ _ _ c.self.invariant.2 (omega arith))

pub invariant_of-self : goal.invariant_of-self
invariant_of-self c =
    let e = c.fetch_sub.ensures.2 in
    let was = c.self.view_is ∙ c.load-left.ensures.loads.after in
    let idle = ap (λ v. v.pending) was ∙ c.requires.idle in
    let unfinished = ap (λ v. v.waived) was ∙ c.requires.unfinished in
    (search rules, search rules, record { view = sending_is _ _ _ e.view; slots = e.slots ∙ c.self.invariant.2.slots }, waives _ _ _ _ _ c.self.invariant.3 _ idle unfinished e.makes e.covered)

pub returns-clause-kept : goal.returns-clause-kept
returns-clause-kept c =
    let e = c.fetch_sub.ensures.2 in
    let was = c.self.view_is ∙ c.load-left.ensures.loads.after in
    let idle = ap (λ v. v.pending) was ∙ c.requires.idle in
    let unfinished = ap (λ v. v.waived) was ∙ c.requires.unfinished in
    waives _ _ _ _ _ c.self.invariant.3 _ idle unfinished e.makes e.covered

pub returns-clause-waived : goal.returns-clause-waived
returns-clause-waived c = search rules
