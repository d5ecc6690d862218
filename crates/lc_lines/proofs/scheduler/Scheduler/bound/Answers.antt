use Rattle.std.proofs.Common.{◌≡◌, ◌∙◌, false, sym}
use Rattle.lc_lines.specs.Scheduler.{bounds_at_once}
use Rattle.lc_lines.proofs.scheduler.Scheduler.bound.Goals as goal

pub returns-clause-after : goal.returns-clause-after
returns-clause-after c =
    let not : bounds_at_once c.args.self.now c.args.channel c.args.bound ≡ false = sym c.bounds_at_once.ensures.value ∙ c.if-bounds_at_once.false in
    rw not c.wait.ensures.after
