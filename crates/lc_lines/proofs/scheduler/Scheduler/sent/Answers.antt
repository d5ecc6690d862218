use Rattle.std.proofs.Common.{subst}
use Rattle.lc_lines.specs.Scheduler.{SchedulerState}
use Rattle.lc_lines.specs.Fair.{AreCounted}
use Rattle.lc_lines.proofs.Fair.{are_counted}
use Rattle.lc_lines.proofs.scheduler.Scheduler.sent.Goals as goal

pub returns-clause-counted : goal.returns-clause-counted
returns-clause-counted c = λ few.
    let s : SchedulerState = record { peer = c.self.inside.peer; queues = c.self.inside.queues; asides = c.self.inside.asides; sent = c.self.inside.sent; begun = c.self.inside.begun; exempt = c.self.inside.exempt; left = c.self.inside.left } in
    subst (λ (m : SchedulerState). AreCounted m) c.self.view_is (are_counted s c.self.invariant.places c.self.invariant.stamps few)
