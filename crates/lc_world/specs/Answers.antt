-- Which answer to an event is right, and what the event leaves. Who may send, issue and absolve what is LCMUX's; the order of refusals, the answers and their names are this project's own.
use Rattle.std.specs.Prelude.{◌≡◌, ℕ, zero, suc, ◌+◌, ◌-◌, min, nat_lt, if◌then◌else◌, ◌⊎◌, Bool, true, false, List, [], ◌∷◌, length, drop, Option, Some, None}
use Rattle.std.specs.List.{flat_map}
use Rattle.std.specs.Option.{option_or, option_and_then}
use Rattle.lc_frame.specs.declared.channel.Channel.{Channel}
use Rattle.lc_frame.specs.declared.frame.Frame.{Frame}
use Rattle.lc_frame.specs.declared.frame.Frame.TheVariants as frame
use Rattle.lc_frame.specs.Frame.{channel_of}
use Rattle.lc_frame.specs.Encoding.{encoding}
use Rattle.lc_frame.specs.Stream.{messages}
use Rattle.lc_book.specs.declared.fault.Refusal.{Refusal}
use Rattle.lc_book.specs.declared.fault.Refusal.TheVariants.{OutOfMemory}
use Rattle.lc_book.specs.declared.fault.Violation.{Violation}
use Rattle.lc_book.specs.Client.{Client, amount_to_absolve, honour_refusal}
use Rattle.lc_book.specs.Server.{Server}
use Rattle.lc_peer.specs.Calls.{book_refusal}
use Rattle.lc_peer.specs.Arrivals.{violation}
use Rattle.lc_world.specs.declared.event.Side.{Side}
use Rattle.lc_world.specs.declared.event.Side.TheVariants.{A, B}
use Rattle.lc_world.specs.declared.event.Act.{Act}
use Rattle.lc_world.specs.declared.event.Act.TheVariants.{Send, Issue, Plead, Absolve, Honour, LimitSending, LimitReceiving, Finish, Arrive, Deliver, Take}
use Rattle.lc_world.specs.declared.event.Event.{Event}
use Rattle.lc_world.specs.declared.event.Answer.{Answer}
use Rattle.lc_world.specs.declared.event.Answer.TheVariants.{Accepted, Absolved, NothingToAbsolve, Arrived, Delivered, NothingInFlight, Violated, Took, Empty, Ended, Refused}
use Rattle.lc_world.specs.State.{State, Line, line, other, client_book, server_book, taken_count, put_on, arrive_first, arrive_on, size, deliver_on, take_on, forget_on, settled}

-- the frame that an event puts where it is accepted; an honour's says what it absolved, and an arrival, a delivery and a take put none
abbrev pub own_frame : Act → Option Frame
own_frame (Send c body) = Some (frame.Send c body)
own_frame (Issue c amount) = Some (frame.Issue c amount)
own_frame (Plead c target) = Some (frame.Plead c target)
own_frame (Absolve c amount) = Some (frame.Absolve c amount)
own_frame (LimitSending c bound) = Some (frame.LimitSending c bound)
own_frame (LimitReceiving c bound) = Some (frame.LimitReceiving c bound)
own_frame (Finish c) = Some (frame.Finish c)
own_frame (Honour c) = None
own_frame Arrive = None
own_frame (Deliver count) = None
own_frame (Take c) = None

-- the first refusal of an own event, by the side's books of its channel: that of its frame
abbrev pub refusal : Client → Server → Act → Option Refusal
refusal client server act = option_and_then (book_refusal client server) (own_frame act)

-- the answer by the refusal: an event that has none is accepted
abbrev pub judged : Option Refusal → Answer
judged None = Accepted
judged (Some r) = Refused r

-- an honour by the amount that it absolves
abbrev pub honoured : Option ℕ → Answer
honoured None = NothingToAbsolve
honoured (Some amount) = Absolved amount

-- an honour, by the refusal of the book and the amount that it absolves
abbrev pub honour_judged : Option Refusal → Option ℕ → Answer
honour_judged None amount = honoured amount
honour_judged (Some r) amount = Refused r

-- the answer to an honour, by the client's book: its refusal, or what it absolves
abbrev pub honour_answer : Client → Answer
honour_answer client = honour_judged (honour_refusal client) (amount_to_absolve client)

-- the frame that an answered event puts last on its side's stream
abbrev pub frame_put : Act → Answer → Option Frame
frame_put act Accepted = own_frame act
frame_put (Honour c) (Absolved amount) = Some (frame.Absolve c amount)
frame_put act answer = None

-- the answer to an arrival, by the violation of the frame
abbrev pub arrival : Option Violation → Answer
arrival None = Arrived
arrival (Some v) = Violated v

-- the answer to an arrival of the first of the frames in flight, at the side whose line is the first: that none is in flight, or by its violation
abbrev pub arrive_answer : ℕ → Line → Line → List Frame → Answer
arrive_answer capacity mine theirs [] = NothingInFlight
arrive_answer capacity mine theirs (f ∷ rest) = arrival (violation (client_book (channel_of f) mine theirs) (server_book capacity (channel_of f) mine theirs) f)

-- how many bytes are in flight, those of the greeting too
abbrev pub bytes_in_flight : Line → ℕ
bytes_in_flight l = l.greeting_left + (length (flat_map (encoding l.version) l.in_flight) - l.begun)

-- so many bytes of the frames in flight have been delivered: the violation of the first whole one that has any, by the books after those before it
abbrev pub delivery_violation : ℕ → Line → List Frame → ℕ → Line → Option Violation
delivery_violation capacity mine [] n theirs = None
delivery_violation capacity mine (f ∷ rest) n theirs =
    if nat_lt n (size theirs.version f) then None
    else option_or (violation (client_book (channel_of f) mine theirs) (server_book capacity (channel_of f) mine theirs) f) (delivery_violation capacity mine rest (n - size theirs.version f) (arrive_first theirs (f ∷ rest)))

-- the answer to a delivery: the violation that it met, or how many bytes and how many frames came
abbrev pub delivery : Option Violation → ℕ → ℕ → Answer
delivery None bytes frames = Delivered bytes frames
delivery (Some v) bytes frames = Violated v

-- the answer to a delivery of so many of the bytes in flight, of which the last number says how many there are, at the side whose line is the first: that none is, the first violation, or how many they were, and how many frames arrived
abbrev pub deliver_answer : ℕ → Line → Line → ℕ → ℕ → Answer
deliver_answer capacity mine theirs count zero = NothingInFlight
deliver_answer capacity mine theirs count (suc n) = delivery (delivery_violation capacity mine theirs.in_flight (theirs.begun + (count - theirs.greeting_left)) theirs) (min count (suc n)) (length (deliver_on count theirs).arrived - length theirs.arrived)

-- the messages that arrived and were not taken
abbrev pub waiting : Channel → Line → List (List ℕ)
waiting c l = drop (taken_count c l) (messages c l.arrived)

-- where no message waits, the channel has ended or it has not: by whether the client's Finish has arrived, and by what is left of its limit as far as it has arrived
abbrev pub empty_or_ended : Bool → Option ℕ → Answer
empty_or_ended true left = Ended
empty_or_ended false (Some zero) = Ended
empty_or_ended false left = Empty

-- the answer to a take: the first message that waits, or, where none does, whether one will come
abbrev pub take_answer : Server → List (List ℕ) → Answer
take_answer book [] = empty_or_ended book.finished book.send_left
take_answer book (body ∷ bodies) = Took body

-- the answer where there is memory, at the side whose line is the first
abbrev pub answer_of : ℕ → Line → Line → Act → Answer
answer_of capacity mine theirs (Send c body) = judged (refusal (client_book c mine theirs) (server_book capacity c mine theirs) (Send c body))
answer_of capacity mine theirs (Issue c amount) = judged (refusal (client_book c mine theirs) (server_book capacity c mine theirs) (Issue c amount))
answer_of capacity mine theirs (Plead c target) = judged (refusal (client_book c mine theirs) (server_book capacity c mine theirs) (Plead c target))
answer_of capacity mine theirs (Absolve c amount) = judged (refusal (client_book c mine theirs) (server_book capacity c mine theirs) (Absolve c amount))
answer_of capacity mine theirs (Honour c) = honour_answer (client_book c mine theirs)
answer_of capacity mine theirs (LimitSending c bound) = judged (refusal (client_book c mine theirs) (server_book capacity c mine theirs) (LimitSending c bound))
answer_of capacity mine theirs (LimitReceiving c bound) = judged (refusal (client_book c mine theirs) (server_book capacity c mine theirs) (LimitReceiving c bound))
answer_of capacity mine theirs (Finish c) = judged (refusal (client_book c mine theirs) (server_book capacity c mine theirs) (Finish c))
answer_of capacity mine theirs Arrive = arrive_answer capacity mine theirs theirs.in_flight
answer_of capacity mine theirs (Deliver count) = deliver_answer capacity mine theirs count (bytes_in_flight theirs)
answer_of capacity mine theirs (Take c) = take_answer (server_book capacity c mine theirs) (waiting c theirs)

-- what may want memory: an event that can put a frame, and a take of a waiting message
abbrev pub MayWantMemory : Act → Answer → Type 0
MayWantMemory (Send c body) answer = Unit {0}
MayWantMemory (Issue c amount) answer = Unit {0}
MayWantMemory (Plead c target) answer = Unit {0}
MayWantMemory (Absolve c amount) answer = Unit {0}
MayWantMemory (Honour c) answer = Unit {0}
MayWantMemory (LimitSending c bound) answer = Unit {0}
MayWantMemory (LimitReceiving c bound) answer = Unit {0}
MayWantMemory (Finish c) answer = Unit {0}
MayWantMemory Arrive answer = ⊥
MayWantMemory (Deliver count) answer = ⊥
MayWantMemory (Take c) (Took body) = Unit {0}
MayWantMemory (Take c) answer = ⊥

-- an answer is this one, or want of memory where there may be one
abbrev pub IsUnlessMemory : Act → Answer → Answer → Type 0
IsUnlessMemory act right answer = (answer ≡ right) ⊎ (MayWantMemory act right × (answer ≡ Refused OutOfMemory))

-- the answer is right at the side whose line is the first
abbrev pub IsAnswerOf : ℕ → Line → Line → Act → Answer → Type 0
IsAnswerOf capacity mine theirs act answer = IsUnlessMemory act (answer_of capacity mine theirs act) answer

-- the answer is right in this state, or want of memory where there may be one
abbrev pub IsAnswer : State → Event → Answer → Type 0
IsAnswer w event answer = IsAnswerOf w.capacity (line w event.side) (line w (other event.side)) event.act answer

-- a frame is put last, if there is one
abbrev pub put_any : Line → Option Frame → Line
put_any l None = l
put_any l (Some f) = put_on l f

-- what an answered event leaves of its side's line; a refusal leaves it as it was
abbrev pub mine_after : Line → Line → Act → Answer → Line
mine_after mine theirs act answer = put_any mine (frame_put act answer)

-- what an answered event leaves of the other side's line; a refusal leaves it as it was
abbrev pub theirs_after : Line → Line → Act → Answer → Line
theirs_after mine theirs Arrive Arrived = arrive_on theirs
theirs_after mine theirs (Deliver count) (Delivered bytes frames) = deliver_on count theirs
theirs_after mine theirs (Take c) (Took body) = take_on c theirs
theirs_after mine theirs (Honour c) (Absolved amount) = forget_on c theirs
theirs_after mine theirs (Honour c) NothingToAbsolve = forget_on c theirs
theirs_after mine theirs (Send c body) answer = theirs
theirs_after mine theirs (Issue c amount) answer = theirs
theirs_after mine theirs (Plead c target) answer = theirs
theirs_after mine theirs (Absolve c amount) answer = theirs
theirs_after mine theirs (Honour c) answer = theirs
theirs_after mine theirs (LimitSending c bound) answer = theirs
theirs_after mine theirs (LimitReceiving c bound) answer = theirs
theirs_after mine theirs (Finish c) answer = theirs
theirs_after mine theirs Arrive answer = theirs
theirs_after mine theirs (Deliver count) answer = theirs
theirs_after mine theirs (Take c) answer = theirs

-- the state that an answered event of a side leaves
abbrev pub state_after : State → Side → Act → Answer → State
state_after w A act answer = settled w.capacity (mine_after w.a w.b act answer) (theirs_after w.a w.b act answer)
state_after w B act answer = settled w.capacity (theirs_after w.b w.a act answer) (mine_after w.b w.a act answer)

-- the state that an answered event leaves
abbrev pub after : State → Event → Answer → State
after w event answer = state_after w event.side event.act answer
