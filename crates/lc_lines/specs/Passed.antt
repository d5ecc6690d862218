-- What a passed channel keeps from the others: the shared slots, until its call comes or the driver takes a frame.
use Rattle.std.specs.Prelude.{◌≡◌, ◌≤◌, ℕ, true, false}
use Rattle.lc_frame.specs.declared.channel.Channel.{Channel}
use Rattle.lc_frame.specs.Channel.{is_same}
use Rattle.lc_lines.specs.Outbound.{queued}
use Rattle.lc_lines.specs.Scheduler.{SchedulerState, is_passed, can_proceed}

-- while a channel is passed, no message and no permit of another channel proceeds of which a message is queued: so each other channel passes it once at most
abbrev pub PassedChannelsAreSpared : Type 0
PassedChannelsAreSpared = (s : SchedulerState) (c d : Channel) (len : ℕ) → is_same d c ≡ false → is_passed s d ≡ true → 1 ≤ queued c s.peer.waiting → can_proceed s c len ≡ false
