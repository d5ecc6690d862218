use Rattle.std.proofs.Common.{◌≡◌, ap, subst}
use Rattle.lc_lines.specs.Scheduler.{SchedulerState}
use Rattle.lc_lines.specs.Closing.{close}
use Rattle.lc_lines.specs.Lines.{LinesState, with_scheduler}
use Rattle.lc_lines.proofs.Closing.{none_settled}
use Rattle.lc_lines.proofs.lines.Lines.close.Goals as goal

pub invariant_of-self : goal.invariant_of-self
invariant_of-self c = record { some = c.self.invariant.some; settled = λ _. none_settled c.close.new.self c.close.ensures.closed.none }

pub returns-clause-after : goal.returns-clause-after
returns-clause-after c =
    let l : LinesState = record { scheduler = c.self.inside.scheduler; notices = c.self.inside.notices.items; entries = c.self.inside.notices.capacity } in
    subst (λ (x : LinesState). with_scheduler l c.close.new.self ≡ with_scheduler x (close x.scheduler)) c.self.view_is (ap (λ (s : SchedulerState). with_scheduler l s) c.close.ensures.after)

pub returns-clause-settled : goal.returns-clause-settled
returns-clause-settled c = none_settled c.close.new.self c.close.ensures.closed.none
