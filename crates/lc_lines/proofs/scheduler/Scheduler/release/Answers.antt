use Rattle.std.proofs.Common.{◌≡◌, true, subst, sym, arith}
use Rattle.std.proofs.lemmas.Grind.{common_steps}
use Rattle.lc_lines.specs.Permits.{is_permit}
use Rattle.lc_lines.specs.Scheduler.{SchedulerState, aside}
use Rattle.lc_lines.proofs.Fields.{release_fields}
use Rattle.lc_lines.proofs.scheduler.Scheduler.release.Goals as goal

pub invariant_of-self : goal.invariant_of-self
invariant_of-self c =
    let permit = subst (λ (s : SchedulerState). is_permit (aside s c.args.channel) c.args.len ≡ true) (sym c.self.view_is) c.requires in
    release_fields c.self.inside.peer c.self.inside.queues c.self.inside.asides _ c.self.inside.sent c.self.inside.begun c.self.inside.exempt c.self.inside.counts c.release.new.self c.args.channel c.args.len
    (grind (arith, common_steps)) c.release.ensures permit c.self.invariant
