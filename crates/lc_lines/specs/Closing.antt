-- Closing a side's direction of all channels: calls and permits are given up, and each channel is finished once a slot is free for a control frame. These rules are this project's own.
use Rattle.std.specs.Prelude.{◌≡◌, ◌⊎◌, ◌==◌, ℕ, Bool, true, false, if◌then◌else◌, List, [], ◌∷◌, Option, Some, None}
use Rattle.lc_frame.specs.declared.channel.Channel.{Channel}
use Rattle.lc_frame.specs.declared.version.Version.{Version}
use Rattle.lc_frame.specs.declared.version.Version.TheVariants.{One, Two}
use Rattle.lc_book.specs.Client.{Client}
use Rattle.lc_peer.specs.Peer.{PeerState, client}
use Rattle.lc_lines.specs.declared.queue.Bound.{Bound}
use Rattle.lc_lines.specs.declared.queue.Bound.TheVariants as bound
use Rattle.lc_lines.specs.Queue.{without_calls}
use Rattle.lc_lines.specs.Permits.{no_permits}
use Rattle.lc_lines.specs.Bounds.{frame_of_bound}
use Rattle.lc_lines.specs.Outbound.{every_channel, has_control_slot}
use Rattle.lc_lines.specs.Scheduler.{SchedulerState, queue, aside, with_queue, with_aside, put_frame}

-- the bound that finishes a channel: a Finish, and in version One, which has none, a limit of 0
abbrev pub last_bound : Version → Bound
last_bound One = bound.Limit 0
last_bound Two = bound.Finish

-- whether there is a limit of which nothing is left
abbrev pub is_used_up : Option ℕ → Bool
is_used_up None = false
is_used_up (Some left) = left == 0

-- whether the client of a version has finished its channel: in version One its limit on sending is used up
abbrev pub is_finished_in : Version → Client → Bool
is_finished_in One b = is_used_up b.send_left
is_finished_in Two b = b.finished

-- whether this side has finished a channel
abbrev pub is_finished : PeerState → Channel → Bool
is_finished p c = is_finished_in p.version (client p c)

-- the calls and the permits of a channel are given up
abbrev pub abandon : SchedulerState → Channel → SchedulerState
abandon s c = with_aside (with_queue s c (without_calls (queue s c))) c no_permits

-- the same of each of these channels
abbrev pub abandon_among : SchedulerState → List Channel → SchedulerState
abandon_among s [] = s
abandon_among s (c ∷ channels) = abandon_among (abandon s c) channels

-- a channel is finished, unless it was, or no slot is free for a control frame
abbrev pub finish : SchedulerState → Channel → SchedulerState
finish s c = if is_finished s.peer c then s else (if has_control_slot s.peer s.asides then put_frame s (frame_of_bound c (last_bound s.peer.version)) else s)

-- the same of each of these channels, in order
abbrev pub finish_among : SchedulerState → List Channel → SchedulerState
finish_among s [] = s
finish_among s (c ∷ channels) = finish_among (finish s c) channels

-- all calls and permits are given up, and then each channel is finished for which a slot is free
abbrev pub close : SchedulerState → SchedulerState
close s = finish_among (abandon_among s every_channel) every_channel

-- no call of a channel waits, and no permit of it is out
pub record IsAbandoned (s : SchedulerState) (c : Channel) : Type 0 where
  pub calls : (queue s c).calls ≡ []
  pub permits : aside s c ≡ no_permits

-- no call waits, and no permit is out
abbrev pub NoneWaits : SchedulerState → Type 0
NoneWaits s = (c : Channel) → IsAbandoned s c

-- a channel is finished, or its finish lacks a slot for a control frame
abbrev pub IsFinishedOrLacksSlot : SchedulerState → Channel → Type 0
IsFinishedOrLacksSlot s c = (is_finished s.peer c ≡ true) ⊎ (has_control_slot s.peer s.asides ≡ false)

-- all is given up, and each channel is finished, or its finish lacks a slot and nothing else
pub record IsClosed (s : SchedulerState) : Type 0 where
  pub none : NoneWaits s
  pub finished : (c : Channel) → IsFinishedOrLacksSlot s c
