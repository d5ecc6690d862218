use Rattle.std.proofs.Common.{rules, arith, ap, ◌∙◌}
use Rattle.lc_credit.proofs.Histories.{received_same}
use Rattle.lc_credit.proofs.Seats.{may_load_in, reading_is}
use Rattle.lc_credit.proofs.Kept.{learns_in}
use Rattle.lc_credit.proofs.channel_in.ChannelIn.load.Goals as goal

pub load-requires : goal.load-requires
load-requires c = (search rules, search rules, may_load_in _ _ _ c.self.invariant.2)

pub invariant_of-self : goal.invariant_of-self
invariant_of-self c =
    let e = c.load.ensures.2 in
    (search rules, search rules, record { view = reading_is _ _ e.view; slots = e.slots ∙ c.self.invariant.2.slots }, learns_in _ _ _ _ c.self.invariant.3 e.learns.knows)

pub returns-clause-loads : goal.returns-clause-loads
returns-clause-loads c =
    let e = c.load.ensures.2 in
    let now = ap (λ v. v.received) c.self.view_is in
    let counted = c.self.invariant.3.counted in
    let same = received_same _ _ e.learns.knows in
    let covered = e.covered in
    record { learns = search rules; held = search rules; covered = omega arith; after = search rules }

pub returns-clause-kept : goal.returns-clause-kept
returns-clause-kept c = learns_in _ _ _ _ c.self.invariant.3 c.load.ensures.2.learns.knows
