use Rattle.std.proofs.Common.{sym, ◌∙◌}
use Rattle.lc_lines.specs.Scheduler.{front}
use Rattle.lc_lines.proofs.Next.{accepted_by, bytes_by, turn_by}
use Rattle.lc_lines.proofs.scheduler.Scheduler.step.Goals as goal

pub notify-requires-clause-bytes : goal.notify-requires-clause-bytes
notify-requires-clause-bytes c =
    let s = c.args.self.now in
    bytes_by s c.in_ok-channel.channel (front s c.in_ok-channel.channel) (sym c.is_front_bound.ensures ∙ c.if-is_front_bound.false) c.in_ok-channel.ensures.proceeds

pub notify-requires-clause-turn : goal.notify-requires-clause-turn
notify-requires-clause-turn c =
    let s = c.args.self.now in
    turn_by s c.in_ok-channel.channel (front s c.in_ok-channel.channel) (sym c.is_front_bound.ensures ∙ c.if-is_front_bound.false) c.in_ok-channel.ensures.proceeds

pub proceed-requires-clause-accepted : goal.proceed-requires-clause-accepted
proceed-requires-clause-accepted c =
    let s = c.args.self.now in
    accepted_by s c.in_ok-channel.channel (front s c.in_ok-channel.channel) (sym c.is_front_bound.ensures ∙ c.if-is_front_bound.false) c.in_ok-channel.ensures.proceeds

pub proceed-requires-clause-bytes : goal.proceed-requires-clause-bytes
proceed-requires-clause-bytes c =
    let s = c.args.self.now in
    bytes_by s c.in_ok-channel.channel (front s c.in_ok-channel.channel) (sym c.is_front_bound.ensures ∙ c.if-is_front_bound.false) c.in_ok-channel.ensures.proceeds

pub proceed-requires-clause-turn : goal.proceed-requires-clause-turn
proceed-requires-clause-turn c =
    let s = c.args.self.now in
    turn_by s c.in_ok-channel.channel (front s c.in_ok-channel.channel) (sym c.is_front_bound.ensures ∙ c.if-is_front_bound.false) c.in_ok-channel.ensures.proceeds
