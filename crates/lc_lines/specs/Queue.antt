-- The wait queue of a channel: the calls that wait, the first first, and when the channel took its last turn. Wait queues are this project's own.
use Rattle.std.specs.Prelude.{ℕ, Bool, true, false, ◌==◌, nat_lt, if◌then◌else◌, List, [], length, drop, remove, slice_get, Option, None}
use Rattle.std.specs.List.{position_or_len}
use Rattle.lc_lines.specs.declared.queue.Ask.{Ask}
use Rattle.lc_lines.specs.declared.queue.Ask.TheVariants.{Message, Offer, Permit, End}
use Rattle.lc_lines.specs.declared.queue.Call.{Call}

-- the calls that wait, the first first, when the channel took its last turn, counted in the turns of all channels, whether the first call was notified and has not come since, and how many frames had left the outbound queue when that was noted
pub record QueueState : Type 0 where
  pub calls : List Call
  pub last : ℕ
  pub notified : Bool
  pub noted : ℕ

-- no call waits, and the channel has taken no turn
abbrev pub empty_queue : QueueState
empty_queue = record { calls = []; last = 0; notified = false; noted = 0 }

-- the bytes of what a call asks for; a bound has none
abbrev pub ask_len : Ask → ℕ
ask_len (Message body) = length body
ask_len (Offer len) = len
ask_len (Permit len) = len
ask_len (End bound) = 0

-- the bytes of the message of a call, or of its permit
abbrev pub call_len : Call → ℕ
call_len call = ask_len call.ask

-- whether a call asks by an offer
abbrev pub is_offer : Ask → Bool
is_offer (Message body) = false
is_offer (Offer len) = true
is_offer (Permit len) = false
is_offer (End bound) = false

-- whether a call asks to bound what its channel sends
abbrev pub is_bound : Ask → Bool
is_bound (Message body) = false
is_bound (Offer len) = false
is_bound (Permit len) = false
is_bound (End bound) = true

-- the first call, unless it was notified and has not come since
abbrev pub first_waiting : QueueState → Option Call
first_waiting q = if q.notified then None else slice_get q.calls 0

-- the place of the first call of a ticket, or how many calls there are
abbrev pub place_of : ℕ → List Call → ℕ
place_of ticket calls = position_or_len (λ call. call.ticket == ticket) calls

-- whether a call of the ticket waits
abbrev pub waits : ℕ → List Call → Bool
waits ticket calls = nat_lt (place_of ticket calls) (length calls)

-- the calls without the first one of the ticket, if any
abbrev pub without : ℕ → List Call → List Call
without ticket calls = if waits ticket calls then remove calls (place_of ticket calls) else calls

-- the queue without its first call: the next one was not notified
abbrev pub without_first : QueueState → QueueState
without_first q = record q { calls = drop 1 q.calls; notified = false }

-- the queue without its calls
abbrev pub without_calls : QueueState → QueueState
without_calls q = record q { calls = []; notified = false }

-- the queue without the first call of the ticket, if any: where that was the first of all, the next one was not notified
abbrev pub without_ticket : ℕ → QueueState → QueueState
without_ticket ticket q = record q { calls = without ticket q.calls; notified = if place_of ticket q.calls == 0 then false else q.notified }
