-- Bounds on what a channel sends from their place on: a limit, or a finish. What both mean is that of the client's book; that they wait in line is this project's own.
use Rattle.std.specs.Prelude.{Option}
use Rattle.lc_frame.specs.declared.channel.Channel.{Channel}
use Rattle.lc_frame.specs.declared.frame.Frame.{Frame}
use Rattle.lc_frame.specs.declared.frame.Frame.TheVariants.{LimitSending, Finish}
use Rattle.lc_book.specs.declared.fault.Refusal.{Refusal}
use Rattle.lc_book.specs.Client.{Client, limit_sending_refusal, finish_refusal}
use Rattle.lc_lines.specs.declared.queue.Bound.{Bound}
use Rattle.lc_lines.specs.declared.queue.Bound.TheVariants as bound

-- the frame of a bound
abbrev pub frame_of_bound : Channel → Bound → Frame
frame_of_bound c (bound.Limit n) = LimitSending c n
frame_of_bound c bound.Finish = Finish c

-- why a bound is refused by the book of its channel, which then refuses it for good: 15, 7 or 8 of a limit, 17 or 15 of a finish
abbrev pub bound_refusal : Client → Bound → Option Refusal
bound_refusal b (bound.Limit n) = limit_sending_refusal b n
bound_refusal b bound.Finish = finish_refusal b
