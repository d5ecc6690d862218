use Rattle.std.proofs.Common.{rules, arith, ap, ◌∙◌}
use Rattle.lc_credit.proofs.Seats.{may_add_received, reading_is}
use Rattle.lc_credit.proofs.Kept.{receives}
use Rattle.lc_credit.proofs.channel_in.ChannelIn.raise.Goals as goal

pub fetch_add-requires : goal.fetch_add-requires
fetch_add-requires c =
    let now = ap (λ v. v.received) c.self.view_is in
    let counted = c.self.invariant.3.counted in
    let total = c.requires.total in
    let n = c.from-amount.ensures in
    (search rules, search rules, may_add_received _ _ _ _ c.self.invariant.2 (omega arith))

pub invariant_of-self : goal.invariant_of-self
invariant_of-self c =
    let e = c.fetch_add.ensures.2 in
    let now = ap (λ v. v.received) c.self.view_is in
    let total = c.requires.total in
    let n = c.from-amount.ensures in
    (search rules, search rules, record { view = reading_is _ _ e.view; slots = e.slots ∙ c.self.invariant.2.slots }, receives _ _ _ _ c.self.invariant.3 _ _ e.makes (omega arith) (search rules))

pub invariant_of-self-in_default : goal.invariant_of-self-in_default
invariant_of-self-in_default c =
    let e = c.fetch_add.ensures.2 in
    let now = ap (λ v. v.received) c.self.view_is in
    let total = c.requires.total in
    let n = c.from-amount.ensures in
    (search rules, search rules, record { view = reading_is _ _ e.view; slots = e.slots ∙ c.self.invariant.2.slots }, receives _ _ _ _ c.self.invariant.3 _ _ e.makes (omega arith) c.self.invariant.3.bound)

pub returns-in-Some-clause-kept : goal.returns-in-Some-clause-kept
returns-in-Some-clause-kept c =
    let now = ap (λ v. v.received) c.self.view_is in
    let total = c.requires.total in
    let n = c.from-amount.ensures in
    receives _ _ _ _ c.self.invariant.3 _ _ c.fetch_add.ensures.2.makes (omega arith) (search rules)

pub returns-in_default-clause-kept : goal.returns-in_default-clause-kept
returns-in_default-clause-kept c =
    let now = ap (λ v. v.received) c.self.view_is in
    let total = c.requires.total in
    let n = c.from-amount.ensures in
    receives _ _ _ _ c.self.invariant.3 _ _ c.fetch_add.ensures.2.makes (omega arith) c.self.invariant.3.bound
