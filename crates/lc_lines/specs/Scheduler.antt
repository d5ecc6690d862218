-- The send scheduler: a peer with the wait queues of its seven channels, which call proceeds next, and what that leaves. Guarantees are LCMUX's; the rules of scheduling are this project's own.
use Rattle.std.specs.Prelude.{◌≡◌, ℕ, ◌+◌, ◌-◌, ◌*◌, ◌≤◌, ◌==◌, ◌^◌, ◌&&◌, ◌||◌, not, ◌⊎◌, ◌++◌, nat_lt, nat_le, min, Bool, true, false, if◌then◌else◌, List, [], ◌∷◌, length, slice_get, slice_index_or, slice_set, replicate, is_none, is_some, Option, Some, None}
use Rattle.std.specs.Option.{option_or}
use Rattle.std.specs.List.{AllByRecursion}
use Rattle.lc_frame.specs.declared.channel.Channel.{Channel}
use Rattle.lc_frame.specs.declared.frame.Frame.{Frame}
use Rattle.lc_frame.specs.declared.frame.Frame.TheVariants.{Send, Issue, Absolve, Plead, LimitReceiving}
use Rattle.lc_frame.specs.Channel.{channel_count, number_of, is_same}
use Rattle.lc_frame.specs.Bounds.{max_slots}
use Rattle.lc_frame.specs.Kind.{max_body}
use Rattle.lc_frame.specs.Frame.{channel_of}
use Rattle.lc_book.specs.Client.{spend_refusal, honour_refusal as book_honour_refusal}
use Rattle.lc_book.specs.declared.fault.Refusal.{Refusal}
use Rattle.lc_book.specs.declared.fault.Refusal.TheVariants.{NoGuarantee, OutOfMemory, QueueFull}
use Rattle.lc_peer.specs.Peer.{PeerState, client}
use Rattle.lc_peer.specs.declared.config.Config.{Config}
use Rattle.lc_peer.specs.declared.config.PeerFault.{PeerFault}
use Rattle.lc_peer.specs.declared.config.PeerFault.TheVariants as fault
use Rattle.lc_peer.specs.Config.{new_peer, config_fault}
use Rattle.lc_peer.specs.Calls.{put, refusal_by_books, due, put_honour, next, without_next}
use Rattle.lc_peer.specs.declared.questions.Needs.{Needs}
use Rattle.lc_peer.specs.declared.questions.Needs.TheVariants.{Guarantees, Never, Slot}
use Rattle.lc_peer.specs.Questions.{needs}
use Rattle.lc_lines.specs.declared.queue.Ask.{Ask}
use Rattle.lc_lines.specs.declared.queue.Ask.TheVariants.{Message, Permit, End}
use Rattle.lc_lines.specs.declared.queue.Bound.{Bound}
use Rattle.lc_lines.specs.declared.queue.Call.{Call}
use Rattle.lc_lines.specs.declared.permits.Aside.{Aside}
use Rattle.lc_lines.specs.declared.scheduler.Attempt.{Attempt}
use Rattle.lc_lines.specs.declared.scheduler.Attempt.TheVariants.{Succeeded, Lacks}
use Rattle.lc_lines.specs.declared.scheduler.Control.{Control}
use Rattle.lc_lines.specs.declared.scheduler.Control.TheVariants as control
use Rattle.lc_lines.specs.declared.scheduler.Notice.{Notice}
use Rattle.lc_lines.specs.declared.scheduler.Outcome.TheVariants.{Completed, Notified, Hopeless}
use Rattle.lc_lines.specs.declared.scheduler.Progress.{Progress}
use Rattle.lc_lines.specs.declared.scheduler.Progress.TheVariants.{Proceeded, Waits}
use Rattle.lc_lines.specs.Queue.{QueueState, empty_queue, ask_len, call_len, is_offer, is_bound, first_waiting, without_first, without_ticket}
use Rattle.lc_lines.specs.Permits.{none_aside, aside_on, permits_on, with_permit, without_permit, is_permit, permitted, free_of, beyond_permits, Covers, AllowsPermits}
use Rattle.lc_lines.specs.Bounds.{frame_of_bound, bound_refusal}
use Rattle.lc_lines.specs.Outbound.{every_channel, control_slots, least_slots, most_queued, kept, message_bytes, message_count, message_len, none, is_own_free, has_slot, has_control_slot, fits, Counts, counts_of}

-- a peer, the wait queues of its channels and what permits hold there, by their numbers, how many turns were taken so far, how many bytes of the message that left the outbound queue last are not written yet, how many messages entered it by permits since the last other one did, and how many frames left it
pub record SchedulerState : Type 0 where
  pub peer : PeerState
  pub queues : List QueueState
  pub asides : List Aside
  pub sent : ℕ
  pub begun : ℕ
  pub exempt : ℕ
  pub left : ℕ

-- a new peer: no call waits, no permit is out, and nothing was sent
abbrev pub new_scheduler : Config → SchedulerState
new_scheduler config = record { peer = new_peer config; queues = replicate channel_count empty_queue; asides = none_aside; sent = 0; begun = 0; exempt = 0; left = 0 }

-- what is wrong with a configuration: too few slots, or what its peer would say
abbrev pub scheduler_fault : Config → Option PeerFault
scheduler_fault config = if nat_lt config.slots least_slots then Some (fault.BadSlots config.slots) else config_fault config

-- why there is no scheduler: that fault, or want of memory where there is none
abbrev pub IsSchedulerAnswer : Config → Option PeerFault → Type 0
IsSchedulerAnswer config answer = (answer ≡ scheduler_fault config) ⊎ ((scheduler_fault config ≡ None) × (answer ≡ Some fault.OutOfMemory))

-- the wait queue of a channel
abbrev pub queue : SchedulerState → Channel → QueueState
queue s c = slice_index_or s.queues (number_of c) empty_queue

-- what the permits of a channel hold
abbrev pub aside : SchedulerState → Channel → Aside
aside s c = aside_on s.asides c

-- the first call of a channel
abbrev pub first : SchedulerState → Channel → Option Call
first s c = slice_get (queue s c).calls 0

-- the first call of a channel, unless it was notified and has not come since
abbrev pub front : SchedulerState → Channel → Option Call
front s c = first_waiting (queue s c)

-- the bytes of messages that are queued or begun and not written yet
abbrev pub unwritten : SchedulerState → ℕ
unwritten s = message_bytes s.peer.waiting + s.begun

-- the guarantees of a channel that a call may use: those that permits set aside are not among them
abbrev pub free : SchedulerState → Channel → ℕ
free s c = free_of (client s.peer c) (aside s c)

-- whether a channel's guarantees suffice for a message of so many bytes, beside those that permits set aside, and nothing else refuses it
abbrev pub has_guarantees : SchedulerState → Channel → ℕ → Bool
has_guarantees s c len = is_none (spend_refusal (client s.peer c) len) && nat_le len (free s c)

-- how many messages of other channels are queued behind one of a channel at most
abbrev pub most_behind : PeerState → ℕ
most_behind p = p.slots - (control_slots + 1)

-- whether a channel is passed: its first call was notified and has not come since, no frame has left the outbound queue since, and as many turns of other channels followed the channel's own last one as messages can be queued behind one
abbrev pub is_passed : SchedulerState → Channel → Bool
is_passed s c = (queue s c).notified && ((queue s c).noted == s.left && nat_le (most_behind s.peer) (s.sent - (queue s c).last))

-- whether none of these channels is passed, beside this one
abbrev pub none_passed_among : SchedulerState → Channel → List Channel → Bool
none_passed_among s c [] = true
none_passed_among s c (d ∷ channels) = (is_same d c || not (is_passed s d)) && none_passed_among s c channels

-- whether a channel may take a shared slot: no frame is queued, or no other channel is passed
unfoldable pub may_share : SchedulerState → Channel → Bool
may_share s c = length s.peer.waiting == 0 || none_passed_among s c every_channel

-- whether a message or a permit of a channel has a slot: its own is free, or a shared one that it may take
abbrev pub has_place : SchedulerState → Channel → Bool
has_place s c = has_slot s.peer s.asides c && (is_own_free s.peer s.asides c || may_share s c)

-- whether the guarantees of a channel suffice for a message or a permit of so many bytes and a slot is free for it, whoever may take that
abbrev pub is_accepted : SchedulerState → Channel → ℕ → Bool
is_accepted s c len = has_guarantees s c len && has_slot s.peer s.asides c

-- the same of a call, if there is one
abbrev pub is_accepted_call : SchedulerState → Channel → Option Call → Bool
is_accepted_call s c None = false
is_accepted_call s c (Some call) = is_accepted s c (call_len call)

-- whether a message or a permit of a channel of so many bytes has its guarantees and a slot, so that it waits for bytes at most
abbrev pub is_able : SchedulerState → Channel → ℕ → Bool
is_able s c len = has_guarantees s c len && has_place s c

-- the same of a call, if there is one
abbrev pub is_able_call : SchedulerState → Channel → Option Call → Bool
is_able_call s c None = false
is_able_call s c (Some call) = is_able s c (call_len call)

-- whether the first call of a channel waits for bytes at most
abbrev pub waits_for_bytes : SchedulerState → Channel → Bool
waits_for_bytes s c = is_able_call s c (front s c)

-- whether a channel sent no later than another one, where the first call of that waits for bytes at most
abbrev pub is_no_later : SchedulerState → Channel → Channel → Bool
is_no_later s c d = if waits_for_bytes s d then nat_le (queue s c).last (queue s d).last else true

-- whether a channel sent no later than each of these whose first call waits for bytes at most
abbrev pub is_turn_among : SchedulerState → Channel → List Channel → Bool
is_turn_among s c [] = true
is_turn_among s c (d ∷ channels) = is_no_later s c d && is_turn_among s c channels

-- whether no other channel that sent less recently waits for bytes alone
abbrev pub is_turn : SchedulerState → Channel → Bool
is_turn s c = is_turn_among s c every_channel

-- whether a message or a permit of a channel of so many bytes can proceed: its guarantees are there, a slot is free for it, its bytes fit, and no other channel that sent less recently waits for bytes alone
abbrev pub can_proceed : SchedulerState → Channel → ℕ → Bool
can_proceed s c len = is_able s c len && (fits (unwritten s) len && is_turn s c)

-- whether a bound of a channel can be put: its book does not refuse it, no permit of the channel is out, and a slot is free for a control frame
abbrev pub can_bound : SchedulerState → Channel → Bound → Bool
can_bound s c bound = is_none (bound_refusal (client s.peer c) bound) && (permits_on s.asides c == 0 && has_control_slot s.peer s.asides)

-- whether what a call asks for can proceed
abbrev pub can_ask_proceed : SchedulerState → Channel → Ask → Bool
can_ask_proceed s c (End bound) = can_bound s c bound
can_ask_proceed s c ask = can_proceed s c (ask_len ask)

-- the same of a call, if there is one
abbrev pub can_call_proceed : SchedulerState → Channel → Option Call → Bool
can_call_proceed s c None = false
can_call_proceed s c (Some call) = can_ask_proceed s c call.ask

-- whether the bytes of a call, if there is one, fit beside those that are queued or begun
abbrev pub call_fits : SchedulerState → Option Call → Bool
call_fits s None = false
call_fits s (Some call) = fits (unwritten s) (call_len call)

-- whether the first call of a channel can proceed
abbrev pub can_front_proceed : SchedulerState → Channel → Bool
can_front_proceed s c = can_call_proceed s c (front s c)

-- of these channels, the first whose first call can proceed
abbrev pub next_among : SchedulerState → List Channel → Option Channel
next_among s [] = None
next_among s (c ∷ channels) = if can_front_proceed s c then Some c else next_among s channels

-- the channel whose first call proceeds next
abbrev pub next_channel : SchedulerState → Option Channel
next_channel s = next_among s every_channel

-- no first call can proceed that was not notified
abbrev pub IsSettled : SchedulerState → Type 0
IsSettled s = (c : Channel) → can_front_proceed s c ≡ false

-- a count one later, which stops at the greatest number
abbrev pub count_after : ℕ → ℕ
count_after count = min (count + 1) (2 ^ 64 - 1)

-- this is the wait queue of a channel
abbrev pub with_queue : SchedulerState → Channel → QueueState → SchedulerState
with_queue s c q = record s { queues = slice_set s.queues (number_of c) q }

-- a message of a channel enters the outbound queue as the last frame, at its turn: its channel sent last
abbrev pub send : SchedulerState → Channel → List ℕ → SchedulerState
send s c body = record s {
  peer = put s.peer (Send c body);
  queues = slice_set s.queues (number_of c) (record (queue s c) { last = count_after s.sent });
  sent = count_after s.sent;
  exempt = 0;
}

-- this is what the permits of a channel hold
abbrev pub with_aside : SchedulerState → Channel → Aside → SchedulerState
with_aside s c a = record s { asides = slice_set s.asides (number_of c) a }

-- a permit of a channel of so many bytes is granted, at its turn: its channel sent last
abbrev pub grant : SchedulerState → Channel → ℕ → SchedulerState
grant s c len = record s {
  queues = slice_set s.queues (number_of c) (record (queue s c) { last = count_after s.sent });
  asides = slice_set s.asides (number_of c) (with_permit (aside s c) len);
  sent = count_after s.sent;
}

-- a permit of so many bytes is out no longer: its slot and its guarantees are free again
abbrev pub release : SchedulerState → Channel → ℕ → SchedulerState
release s c len = with_aside s c (without_permit (aside s c) len)

-- a message is sent by a permit of so many bytes: it enters the outbound queue as the last frame, and took its turn when the permit was granted
abbrev pub send_reserved : SchedulerState → Channel → ℕ → List ℕ → SchedulerState
send_reserved s c len body = record (release s c len) { peer = put s.peer (Send c body); exempt = count_after s.exempt }

-- a permit is given back, if it is out
abbrev pub give_back : SchedulerState → Channel → ℕ → SchedulerState
give_back s c len = if is_permit (aside s c) len then release s c len else s

-- the first call of a channel proceeds: it is out of its wait queue, and its message enters the outbound queue
abbrev pub proceed : SchedulerState → Channel → List ℕ → SchedulerState
proceed s c body = send (with_queue s c (without_first (queue s c))) c body

-- the first call of a channel proceeds: it is out of its wait queue, and its permit is granted
abbrev pub proceed_by_grant : SchedulerState → Channel → ℕ → SchedulerState
proceed_by_grant s c len = grant (with_queue s c (without_first (queue s c))) c len

-- a call joins its wait queue, as the last
abbrev pub join : SchedulerState → Channel → Call → SchedulerState
join s c call = with_queue s c (record (queue s c) { calls = (queue s c).calls ++ call ∷ [] })

-- the first call of a channel is notified, or has come
abbrev pub with_notified : SchedulerState → Channel → Bool → SchedulerState
with_notified s c notified = with_queue s c (record (queue s c) { notified = notified; noted = s.left })

-- the first call of a ticket is given up: it is out of its wait queue
abbrev pub cancel : SchedulerState → Channel → ℕ → SchedulerState
cancel s c ticket = with_queue s c (without_ticket ticket (queue s c))

-- a refusal for good: any but that guarantees are missing
abbrev pub for_good : Option Refusal → Option Refusal
for_good (Some (NoGuarantee held)) = None
for_good refusal = refusal

-- why a message of so many bytes is refused at once: what its book refuses for good, or want of memory where that is nothing
abbrev pub IsCallAnswer : PeerState → Channel → ℕ → Option Refusal → Type 0
IsCallAnswer p c len answer = (answer ≡ for_good (spend_refusal (client p c) len)) ⊎ ((for_good (spend_refusal (client p c) len) ≡ None) × (answer ≡ Some OutOfMemory))

-- whether no call of a channel waits, and a new one of so many bytes can proceed
abbrev pub goes_at_once : SchedulerState → Channel → ℕ → Bool
goes_at_once s c len = length (queue s c).calls == 0 && can_proceed s c len

-- how far a new call comes: it is sent, or waits
abbrev pub progress_of : SchedulerState → Channel → ℕ → Progress
progress_of s c len = if goes_at_once s c len then Proceeded else Waits

-- what a new call that is accepted leaves: its message is sent, or it joins its wait queue
abbrev pub start : SchedulerState → Channel → ℕ → List ℕ → SchedulerState
start s c ticket body = if goes_at_once s c (length body) then send s c body else join s c (record { ticket = ticket; ask = Message body })

-- why a call to reserve is refused: what its book refuses for good, or want of memory where that is nothing and it would wait
abbrev pub IsReserveAnswer : SchedulerState → Channel → ℕ → Option Refusal → Type 0
IsReserveAnswer s c len answer = (answer ≡ for_good (spend_refusal (client s.peer c) len)) ⊎ ((for_good (spend_refusal (client s.peer c) len) ≡ None) × ((goes_at_once s c len ≡ false) × (answer ≡ Some OutOfMemory)))

-- what a call to reserve that is accepted leaves: its permit is granted, or it joins its wait queue
abbrev pub reserve : SchedulerState → Channel → ℕ → ℕ → SchedulerState
reserve s c ticket len = if goes_at_once s c len then grant s c len else join s c (record { ticket = ticket; ask = Permit len })

-- what an attempt to reserve leaves
abbrev pub try_reserve : SchedulerState → Channel → ℕ → SchedulerState
try_reserve s c len = if goes_at_once s c len then grant s c len else s

-- why a message of so many bytes is refused that is sent by a permit of so many: by its book, but for guarantees, and by 4 where it is longer than the permit
abbrev pub reserved_refusal : SchedulerState → Channel → ℕ → ℕ → Option Refusal
reserved_refusal s c len n = option_or (for_good (spend_refusal (client s.peer c) n)) (if nat_lt (permitted (aside s c) len) n then Some (NoGuarantee (permitted (aside s c) len)) else None)

-- the same, or want of memory where that is nothing
abbrev pub IsReservedAnswer : SchedulerState → Channel → ℕ → ℕ → Option Refusal → Type 0
IsReservedAnswer s c len n answer = (answer ≡ reserved_refusal s c len n) ⊎ ((reserved_refusal s c len n ≡ None) × (answer ≡ Some OutOfMemory))

-- a message of so many bytes is within a permit of so many that is out
pub record IsWithinPermit (s : SchedulerState) (c : Channel) (len n : ℕ) : Type 0 where
  pub out : is_permit (aside s c) len ≡ true
  pub some : 1 ≤ n
  pub within : n ≤ len
  pub short : n ≤ max_body (client s.peer c).version

-- where that is so, want of memory alone refuses it: whatever is queued, whatever waits, and whatever other permits hold
abbrev pub IsHonoured : SchedulerState → Channel → ℕ → ℕ → Option Refusal → Type 0
IsHonoured s c len n answer = IsWithinPermit s c len n → (answer ≡ None) ⊎ (answer ≡ Some OutOfMemory)

-- whether a need is for what never comes
abbrev pub is_never : Needs → Bool
is_never Never = true
is_never needed = false

-- what a message or a permit of so many bytes lacks that does not go at once: what never comes, guarantees, or else a slot, bytes or its turn
abbrev pub lack : SchedulerState → Channel → ℕ → Needs
lack s c len = if is_never (needs s.peer c len) then Never else (if nat_le len (free s c) then Slot else Guarantees (len - free s c))

-- why an attempt is refused: what its book refuses for good, or want of memory where the message goes at once
abbrev pub IsAttemptAnswer : SchedulerState → Channel → ℕ → Option Refusal → Type 0
IsAttemptAnswer s c len answer = (answer ≡ for_good (spend_refusal (client s.peer c) len)) ⊎ ((goes_at_once s c len ≡ true) × (answer ≡ Some OutOfMemory))

-- the answer of an attempt: it succeeds, or lacks something
abbrev pub attempt : SchedulerState → Channel → ℕ → Attempt
attempt s c len = if goes_at_once s c len then Succeeded else Lacks (lack s c len)

-- what an attempt to send leaves
abbrev pub try_send : SchedulerState → Channel → List ℕ → SchedulerState
try_send s c body = if goes_at_once s c (length body) then send s c body else s

-- whether a call, if there is one, is an offer
abbrev pub is_offer_call : Option Call → Bool
is_offer_call None = false
is_offer_call (Some call) = is_offer call.ask

-- whether a call, if there is one, asks to bound what its channel sends
abbrev pub is_bound_call : Option Call → Bool
is_bound_call None = false
is_bound_call (Some call) = is_bound call.ask

-- whether a call, if there is one, is an offer of this ticket
abbrev pub is_offer_of : ℕ → Option Call → Bool
is_offer_of ticket None = false
is_offer_of ticket (Some call) = call.ticket == ticket && is_offer call.ask

-- whether an offer is completed by a message of so many bytes: it is the first of its channel, and that message can proceed
abbrev pub completes : SchedulerState → Channel → ℕ → ℕ → Bool
completes s c ticket len = is_offer_of ticket (first s c) && can_proceed s c len

-- why a message that completes an offer is refused: what its book refuses for good, or want of memory where it is sent
abbrev pub IsCompleteAnswer : SchedulerState → Channel → ℕ → ℕ → Option Refusal → Type 0
IsCompleteAnswer s c ticket len answer = (answer ≡ for_good (spend_refusal (client s.peer c) len)) ⊎ ((completes s c ticket len ≡ true) × (answer ≡ Some OutOfMemory))

-- how far an offer comes by a message of so many bytes
abbrev pub complete_progress : SchedulerState → Channel → ℕ → ℕ → Progress
complete_progress s c ticket len = if completes s c ticket len then Proceeded else Waits

-- what the message of an offer leaves: where the offer is the first call, the message is sent, or the offer waits again, to be notified anew
abbrev pub complete : SchedulerState → Channel → ℕ → List ℕ → SchedulerState
complete s c ticket body = if is_offer_of ticket (first s c) then (if can_proceed s c (length body) then proceed s c body else with_notified s c false) else s

-- a message or a permit can proceed: its call is the first of its channel and was not notified, it has its guarantees and a slot, its bytes fit, and no channel that sent less recently waits for bytes alone
pub record IsNext (s : SchedulerState) (c : Channel) (call : Call) : Type 0 where
  pub first : front s c ≡ Some call
  pub able : is_able s c (call_len call) ≡ true
  pub bytes : fits (unwritten s) (call_len call) ≡ true
  pub turn : is_turn s c ≡ true

-- a call that left its message proceeds, and its ticket is noticed
pub record Proceeds (notice : Notice) (old new : SchedulerState) : Type 0 where
  pub call : Call
  pub body : List ℕ
  pub ticket : notice.ticket ≡ call.ticket
  pub outcome : notice.outcome ≡ Completed
  pub next : IsNext old notice.channel call
  pub ask : call.ask ≡ Message body
  pub after : new ≡ proceed old notice.channel body

-- the permit of a call is granted, and its ticket is noticed
pub record Grants (notice : Notice) (old new : SchedulerState) : Type 0 where
  pub call : Call
  pub len : ℕ
  pub ticket : notice.ticket ≡ call.ticket
  pub outcome : notice.outcome ≡ Completed
  pub next : IsNext old notice.channel call
  pub ask : call.ask ≡ Permit len
  pub after : new ≡ proceed_by_grant old notice.channel len

-- a call to send or to reserve is completed: its message proceeds, or its permit is granted
abbrev pub Completes : Notice → SchedulerState → SchedulerState → Type 0
Completes notice old new = Proceeds notice old new ⊎ Grants notice old new

-- the caller of an offer is notified that it can proceed: it holds nothing, and its call stays the first of its channel
pub record Notifies (notice : Notice) (old new : SchedulerState) : Type 0 where
  pub call : Call
  pub ticket : notice.ticket ≡ call.ticket
  pub outcome : notice.outcome ≡ Notified
  pub next : IsNext old notice.channel call
  pub ask : is_offer call.ask ≡ true
  pub after : new ≡ with_notified old notice.channel true

-- the frame of a control call
abbrev pub frame_of_control : Control → Frame
frame_of_control (control.Issue c amount) = Issue c amount
frame_of_control (control.Absolve c amount) = Absolve c amount
frame_of_control (control.Plead c target) = Plead c target
frame_of_control (control.LimitReceiving c bound) = LimitReceiving c bound

-- 13 where no slot is free for a control frame
abbrev pub slot_refusal : SchedulerState → Option Refusal
slot_refusal s = if has_control_slot s.peer s.asides then None else Some QueueFull

-- why a control call is refused: its books come first, then what permits set aside, and then 13
abbrev pub control_refusal : SchedulerState → Frame → Option Refusal
control_refusal s f = option_or (refusal_by_books s.peer f) (option_or (beyond_permits (client s.peer (channel_of f)) (aside s (channel_of f)) f) (slot_refusal s))

-- why an honour is refused that absolves so much, if it absolves anything: what permits set aside, and then 13
abbrev pub absolving_refusal : SchedulerState → Channel → Option ℕ → Option Refusal
absolving_refusal s c None = None
absolving_refusal s c (Some amount) = option_or (beyond_permits (client s.peer c) (aside s c) (Absolve c amount)) (slot_refusal s)

-- why an honour is refused, which then keeps the plead: its book comes first
abbrev pub honour_refusal : SchedulerState → Channel → Option Refusal
honour_refusal s c = option_or (book_honour_refusal (client s.peer c)) (absolving_refusal s c (due s.peer c))

-- an honour forgets the plead, and absolves what is held above its target, if anything
abbrev pub honour : SchedulerState → Channel → SchedulerState
honour s c = record s { peer = put_honour s.peer c }

-- a frame enters the outbound queue
abbrev pub put_frame : SchedulerState → Frame → SchedulerState
put_frame s f = record s { peer = put s.peer f }

-- whether a new bound of a channel is put at once: no call of the channel waits, and it can be put
abbrev pub bounds_at_once : SchedulerState → Channel → Bound → Bool
bounds_at_once s c bound = length (queue s c).calls == 0 && can_bound s c bound

-- why a call to bound what a channel sends is refused: what its book refuses, or want of memory where that is nothing and it would wait
abbrev pub IsBoundAnswer : SchedulerState → Channel → Bound → Option Refusal → Type 0
IsBoundAnswer s c bound answer = (answer ≡ bound_refusal (client s.peer c) bound) ⊎ ((bound_refusal (client s.peer c) bound ≡ None) × ((bounds_at_once s c bound ≡ false) × (answer ≡ Some OutOfMemory)))

-- how far a new bound comes: it is put, or waits
abbrev pub bound_progress : SchedulerState → Channel → Bound → Progress
bound_progress s c bound = if bounds_at_once s c bound then Proceeded else Waits

-- what a new bound that is accepted leaves: its frame is put, or its call joins its wait queue
abbrev pub start_bound : SchedulerState → Channel → ℕ → Bound → SchedulerState
start_bound s c ticket bound = if bounds_at_once s c bound then put_frame s (frame_of_bound c bound) else join s c (record { ticket = ticket; ask = End bound })

-- the first call of a channel proceeds: it is out of its wait queue, and the frame of its bound enters the outbound queue as the last
abbrev pub proceed_by_bound : SchedulerState → Channel → Bound → SchedulerState
proceed_by_bound s c bound = put_frame (with_queue s c (without_first (queue s c))) (frame_of_bound c bound)

-- whether a call, if there is one, asks for a bound that can be put
abbrev pub can_call_bound : SchedulerState → Channel → Option Call → Bool
can_call_bound s c o = is_bound_call o && can_call_proceed s c o

-- the bound of a call that is the first of its channel is put, and its ticket is noticed
pub record Bounds (notice : Notice) (old new : SchedulerState) : Type 0 where
  pub call : Call
  pub bound : Bound
  pub ticket : notice.ticket ≡ call.ticket
  pub outcome : notice.outcome ≡ Completed
  pub first : front old notice.channel ≡ Some call
  pub ask : call.ask ≡ End bound
  pub ready : can_bound old notice.channel bound ≡ true
  pub after : new ≡ proceed_by_bound old notice.channel bound

-- a call that can proceed is completed, or its caller is notified
abbrev pub Steps : Notice → SchedulerState → SchedulerState → Type 0
Steps notice old new = Completes notice old new ⊎ (Bounds notice old new ⊎ Notifies notice old new)

-- the bytes of the message of a frame, if there is one
abbrev pub begun_by : Option Frame → ℕ → ℕ
begun_by None begun = begun
begun_by (Some f) begun = message_len f

-- how many frames left the outbound queue, once the first one leaves, if there is one
abbrev pub left_by : Option Frame → ℕ → ℕ
left_by None left = left
left_by (Some f) left = count_after left

-- the first frame leaves the outbound queue: its message is begun, and that before it is written
abbrev pub take_frame : SchedulerState → SchedulerState
take_frame s = record s { peer = without_next s.peer; begun = begun_by (next s.peer) s.begun; left = left_by (next s.peer) s.left }

-- of the message that is begun at most so many bytes are not written yet
abbrev pub write : SchedulerState → ℕ → SchedulerState
write s left = record s { begun = min left s.begun }

-- whether what a call asks for will never proceed: a message or a permit needs what never comes, or its book refuses a bound
abbrev pub is_hopeless_ask : PeerState → Channel → Ask → Bool
is_hopeless_ask p c (End bound) = is_some (bound_refusal (client p c) bound)
is_hopeless_ask p c ask = is_never (needs p c (ask_len ask))

-- whether a call, if there is one, will never proceed
abbrev pub is_hopeless_call : PeerState → Channel → Option Call → Bool
is_hopeless_call p c None = false
is_hopeless_call p c (Some call) = is_hopeless_ask p c call.ask

-- whether the first call of a channel will never proceed
abbrev pub is_hopeless : SchedulerState → Channel → Bool
is_hopeless s c = is_hopeless_call s.peer c (first s c)

-- of these channels, the first whose first call will never proceed
abbrev pub hopeless_among : SchedulerState → List Channel → Option Channel
hopeless_among s [] = None
hopeless_among s (c ∷ channels) = if is_hopeless s c then Some c else hopeless_among s channels

-- the first channel whose first call will never proceed
abbrev pub next_hopeless : SchedulerState → Option Channel
next_hopeless s = hopeless_among s every_channel

-- each first call may still proceed
abbrev pub NoneIsHopeless : SchedulerState → Type 0
NoneIsHopeless s = (c : Channel) → is_hopeless s c ≡ false

-- a call that will never proceed is out of the front of its wait queue, and nothing else changed
pub record GivesUp (notice : Notice) (old new : SchedulerState) : Type 0 where
  pub call : Call
  pub ticket : notice.ticket ≡ call.ticket
  pub outcome : notice.outcome ≡ Hopeless
  pub first : first old notice.channel ≡ Some call
  pub hopeless : is_hopeless old notice.channel ≡ true
  pub after : new ≡ with_queue old notice.channel (without_first (queue old notice.channel))

-- the messages that are queued or begun have few enough bytes, or there is one
abbrev pub IsFew : List Frame → ℕ → Type 0
IsFew frames begun = (message_bytes frames + begun ≤ most_queued) ⊎ (message_count frames + (1 - none begun) ≤ 1)

-- so it is but for the newest messages, so many at most, which entered by permits
pub record FitsBytes (frames : List Frame) (begun exempt : ℕ) : Type 0 where
  pub older : List Frame
  pub newer : List Frame
  pub whole : frames ≡ older ++ newer
  pub few : message_count newer ≤ exempt
  pub fits : IsFew older begun

-- what the slots of the outbound queue keep: those that only their owners take are free, and so are those for control frames, but for control frames that take them
pub record KeepsSlots (p : PeerState) (asides : List Aside) : Type 0 where
  pub own : kept p.waiting asides + length p.waiting ≤ p.slots
  pub control : message_count p.waiting + kept p.waiting asides + control_slots ≤ p.slots

-- the guarantees that the permits of each channel set aside are there
abbrev pub KeepsGuarantees : PeerState → List Aside → Type 0
KeepsGuarantees p asides = (c : Channel) → Covers (client p c) (aside_on asides c)

-- what the permits of each channel set aside may be sent, where one is out
abbrev pub KeepsPermits : PeerState → List Aside → Type 0
KeepsPermits p asides = (c : Channel) → AllowsPermits (client p c) (aside_on asides c)

-- the bytes of the greatest message
abbrev pub greatest_message : ℕ
greatest_message = 1048576

-- a frame has no greater message
abbrev pub IsShort : Frame → Type 0
IsShort f = message_len f ≤ greatest_message

-- the most bytes of messages that are queued or begun: one for each slot, and the one that is begun
abbrev pub most_unwritten : ℕ
most_unwritten = greatest_message * (max_slots + 1)

-- a channel took its last turn when so many had been taken, or before
abbrev pub SentBy : ℕ → QueueState → Type 0
SentBy sent q = q.last ≤ sent

-- every channel has its wait queue, its permits and its books, what is under way is counted, its slots, guarantees and bytes are within bounds
pub record AreSchedulerFields (p : PeerState) (queues : List QueueState) (asides : List Aside) (sent begun exempt : ℕ) (counts : Counts) : Type 0 where
  pub places : length queues ≡ channel_count
  pub permits : length asides ≡ channel_count
  pub channels : length p.channels ≡ channel_count
  pub stamps : AllByRecursion (SentBy sent) queues
  pub counted : counts ≡ counts_of p.waiting asides
  pub slots : KeepsSlots p asides
  pub some : p.slots ≤ max_slots
  pub guarantees : KeepsGuarantees p asides
  pub allowed : KeepsPermits p asides
  pub bytes : FitsBytes p.waiting begun exempt
  pub short : AllByRecursion IsShort p.waiting
  pub small : begun ≤ greatest_message
  pub bounded : message_bytes p.waiting + begun ≤ most_unwritten
