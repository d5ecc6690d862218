-- What a call waits for that is the first of its channel and was not notified, where no such call can proceed: never for the calls or the permits of other channels.
use Rattle.std.specs.Prelude.{◌≡◌, ◌≤◌, true, false, Some}
use Rattle.lc_frame.specs.declared.channel.Channel.{Channel}
use Rattle.lc_lines.specs.declared.queue.Call.{Call}
use Rattle.lc_lines.specs.Queue.{call_len}
use Rattle.lc_lines.specs.Outbound.{is_own_free, fits}
use Rattle.lc_lines.specs.Scheduler.{SchedulerState, queue, front, unwritten, has_guarantees, waits_for_bytes, IsSettled}

-- whatever calls of other channels wait, or were notified and do not come, and whatever their permits hold: where no message is queued or begun, a first call whose channel's own slot is free has not its guarantees
abbrev pub NoHeadOfLineBlocking : Type 0
NoHeadOfLineBlocking = (s : SchedulerState) (c : Channel) (call : Call) → IsSettled s → unwritten s ≡ 0 → front s c ≡ Some call → is_own_free s.peer s.asides c ≡ true → has_guarantees s c (call_len call) ≡ false

-- the bytes of a first call do not fit beside those that are queued or begun, and its channel sent no later than this one; it may be this channel's own call
pub record WaitsForBytesOf (s : SchedulerState) (c d : Channel) : Type 0 where
  pub call : Call
  pub first : front s d ≡ Some call
  pub before : (queue s d).last ≤ (queue s c).last
  pub full : fits (unwritten s) (call_len call) ≡ false

-- a first call that has its guarantees and a slot, and does not proceed, waits for bytes of such a call
abbrev pub FirstCallsWaitForBytes : Type 0
FirstCallsWaitForBytes = (s : SchedulerState) (c : Channel) → IsSettled s → waits_for_bytes s c ≡ true → (d : Channel) × WaitsForBytesOf s c d
