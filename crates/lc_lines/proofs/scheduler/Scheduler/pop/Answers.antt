use Rattle.std.proofs.Common.{subst, sym}
use Rattle.lc_lines.proofs.Fields.{SameQueue, take_keeps, fields_same}
use Rattle.lc_lines.proofs.scheduler.Scheduler.pop.Goals as goal

pub invariant_of-self : goal.invariant_of-self
invariant_of-self c =
    let p = c.self.inside.peer in
    fields_same p c.pop.new.self c.self.inside.queues c.self.inside.asides c.self.inside.sent c.self.inside.begun c.self.inside.exempt c.self.inside.counts (subst (SameQueue p) (sym c.pop.ensures.after) (take_keeps p c.args.channel c.self.invariant.channels)) c.self.invariant
