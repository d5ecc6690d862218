-- Which control frame is due first, and what comes of it: it is put, or dropped where its book refuses it by now.
use Rattle.std.specs.Prelude.{ℕ, ◌-◌, ◌==◌, ◌&&◌, not, min, nat_lt, Bool, false, if◌then◌else◌, List, [], ◌∷◌, take, drop, Option, Some, None}
use Rattle.std.specs.Option.{option_or, option_map}
use Rattle.lc_frame.specs.declared.channel.Channel.{Channel}
use Rattle.lc_frame.specs.Channel.{number_of}
use Rattle.lc_frame.specs.Frame.{channel_of}
use Rattle.lc_book.specs.declared.fault.Refusal.{Refusal}
use Rattle.lc_book.specs.Client.{held}
use Rattle.lc_peer.specs.Peer.{client}
use Rattle.lc_peer.specs.Calls.{due as due_to_absolve}
use Rattle.lc_lines.specs.declared.scheduler.Control.TheVariants as control
use Rattle.lc_lines.specs.Outbound.{every_channel}
use Rattle.lc_lines.specs.Scheduler.{SchedulerState, aside, frame_of_control, control_refusal, honour_refusal, honour, put_frame}
use Rattle.lc_owed.specs.declared.pending.Pending.{Pending}
use Rattle.lc_owed.specs.declared.due.Due.{Due}
use Rattle.lc_owed.specs.declared.due.Due.TheVariants.{Put, Honour}
use Rattle.lc_owed.specs.Owed.{OwedState, pending_on, with_pending}

-- the guarantees of a channel that an absolve may take: those held that no permit sets aside
abbrev pub spare : SchedulerState → Channel → ℕ
spare s c = held (client s.peer c) - (aside s c).bytes

-- whether an honour would absolve more than so much, if it absolves anything
abbrev pub absolves_past : Option ℕ → ℕ → Bool
absolves_past None n = false
absolves_past (Some amount) n = nat_lt n amount

-- whether permits hold up an honour: it would absolve guarantees that they set aside
abbrev pub is_held_up : SchedulerState → Channel → Bool
is_held_up s c = absolves_past (due_to_absolve s.peer c) (spare s c)

-- the issue that is due on a channel, if one is pending
abbrev pub issue_due : Channel → Pending → Option Due
issue_due c o = if o.issue == 0 then None else Some (Put (control.Issue c o.issue))

-- the limit on receiving that is due
abbrev pub limit_due : Channel → Pending → Option Due
limit_due c o = option_map (λ bound. Put (control.LimitReceiving c bound)) o.limit

-- the plead that is due
abbrev pub plead_due : Channel → Pending → Option Due
plead_due c o = option_map (λ target. Put (control.Plead c target)) o.plead

-- the absolve that is due: of what is pending, as much as is there
abbrev pub absolve_due : SchedulerState → Channel → Pending → Option Due
absolve_due s c o = if o.absolve == 0 then None else Some (Put (control.Absolve c (min o.absolve (spare s c))))

-- the honour that is due, unless permits hold it up
abbrev pub honour_due : SchedulerState → Channel → Pending → Option Due
honour_due s c o = if o.honour && not (is_held_up s c) then Some (Honour c) else None

-- what is due first on a channel: the issue, the limit, the plead, the absolve or the honour
abbrev pub due_on : SchedulerState → Channel → Pending → Option Due
due_on s c o = option_or (issue_due c o) (option_or (limit_due c o) (option_or (plead_due c o) (option_or (absolve_due s c o) (honour_due s c o))))

-- what is due first on these channels
abbrev pub due_among : OwedState → SchedulerState → List Channel → Option Due
due_among o s [] = None
due_among o s (c ∷ channels) = option_or (due_on s c (pending_on o c)) (due_among o s channels)

-- what is due first: on the channels from the one that is served first, and then on those before it
abbrev pub due : OwedState → SchedulerState → Option Due
due o s = option_or (due_among o s (drop (number_of o.first) every_channel)) (due_among o s (take (number_of o.first) every_channel))

-- the channel of what is due
abbrev pub channel_of_due : Due → Channel
channel_of_due (Put control) = channel_of (frame_of_control control)
channel_of_due (Honour c) = c

-- why what is due may not be put: its book comes first, then what permits set aside, and then 13
abbrev pub due_refusal : SchedulerState → Due → Option Refusal
due_refusal s (Put control) = control_refusal s (frame_of_control control)
due_refusal s (Honour c) = honour_refusal s c

-- what is due is put: its frame enters the outbound queue as the last; an honour of a plead that is met puts none
abbrev pub put_due : SchedulerState → Due → SchedulerState
put_due s (Put control) = put_frame s (frame_of_control control)
put_due s (Honour c) = honour s c

-- what is pending on a channel without what was due
abbrev pub without : Pending → Due → Pending
without o (Put (control.Issue c n)) = record o { issue = 0 }
without o (Put (control.LimitReceiving c bound)) = record o { limit = None }
without o (Put (control.Plead c target)) = record o { plead = None }
without o (Put (control.Absolve c n)) = record o { absolve = 0 }
without o (Honour c) = record o { honour = false }

-- what was due is no longer pending
abbrev pub without_due : OwedState → Due → OwedState
without_due o d = with_pending o (channel_of_due d) (without (pending_on o (channel_of_due d)) d)
