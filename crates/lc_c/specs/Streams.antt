-- What goes out of a side and what comes to it. That a stream may be cut at any byte is this project's own to say.
use Rattle.std.specs.Prelude.{◌≡◌, ℕ, ◌+◌, ◌-◌, ◌^◌, ◌<◌, ◌≤◌, ◌==◌, min, List, [], ◌++◌, length, take, drop, if◌then◌else◌, Option, Some, None}
use Rattle.std.specs.List.{flat_map}
use Rattle.lc_frame.specs.FrameFault.{fault_number}
use Rattle.lc_frame.specs.Frame.{body_of}
use Rattle.lc_frame.specs.Encoding.{encoding}
use Rattle.lc_book.specs.Fault.{violation_number}
use Rattle.lc_peer.specs.declared.delivery.Delivery.{Delivery}
use Rattle.lc_peer.specs.declared.delivery.Stop.{Stop}
use Rattle.lc_peer.specs.declared.delivery.Stop.TheVariants.{Fault, Violated}
use Rattle.lc_peer.specs.Deliveries.{Delivers}
use Rattle.lc_peer.specs.Intake.{IntakeState, GivesUp, IntakeEnds}
use Rattle.lc_c.specs.declared.answer.LcmuxAnswer.{LcmuxAnswer}
use Rattle.lc_c.specs.declared.wire.LcmuxDelivery.{LcmuxDelivery}
use Rattle.lc_c.specs.Side.{Side}
use Rattle.lc_c.specs.Answers.{done, only, no_peer, empty}

-- the bytes that are to go out: the rest of the greeting or of the frame that was begun, and then those of the frames that wait, in the peer's version
abbrev pub text : Side → List ℕ
text side = side.pending.bytes ++ flat_map (encoding side.peer.version) side.peer.waiting

-- a side gave out the first so many of them; a frame leaves the peer with its first byte, and nothing else changes
pub record GivesOut (n : ℕ) (old new : Side) : Type 0 where
  pub within : n ≤ length (text old)
  pub rest : text new ≡ drop n (text old)
  pub gone : ℕ
  pub peer : new.peer ≡ record old.peer { waiting = drop gone old.peer.waiting }
  pub begun : (k : ℕ) → k < gone → length (old.pending.bytes ++ flat_map (encoding old.peer.version) (take k old.peer.waiting)) < n
  pub intake : new.intake ≡ old.intake
  pub taken : new.taken ≡ old.taken

-- where nothing is left of a greeting or a frame, the next one is begun, if one waits
pub record Begins (old new : Side) : Type 0 where
  pub same : text new ≡ text old
  pub gone : ℕ
  pub peer : new.peer ≡ record old.peer { waiting = drop gone old.peer.waiting }
  pub one : 0 < gone → gone ≡ 1
  pub first : 0 < gone → old.pending.bytes ≡ []
  pub some : 0 < gone → 0 < length new.pending.bytes
  pub ready : new.pending.bytes ≡ [] → text new ≡ []
  pub intake : new.intake ≡ old.intake
  pub taken : new.taken ≡ old.taken

-- so many bytes more, up to the greatest number that is counted
abbrev pub count_on : ℕ → ℕ → ℕ
count_on more taken = min (taken + more) (2 ^ 64 - 1)

-- a piece is delivered to a side whose stream was not given up
pub record Brings (piece : List ℕ) (old new : Side) (d : Delivery) : Type 0 where
  pub delivers : Delivers old.peer old.intake.held piece new.peer new.intake.held d
  pub stop : new.intake.stop ≡ d.stop
  pub taken : new.taken ≡ count_on d.taken old.taken
  pub pending : new.pending ≡ old.pending

-- where its stream was given up nothing is taken, and the answer is the same for good
pub record StaysStopped (stop : Stop) (old new : Side) (d : Delivery) : Type 0 where
  pub delivery : GivesUp stop d
  pub same : new ≡ old

-- a piece is delivered to a side, unless its stream was given up
abbrev pub DeliversAt : Option Stop → List ℕ → Side → Side → Delivery → Type 0
DeliversAt None piece old new d = Brings piece old new d
DeliversAt (Some stop) piece old new d = StaysStopped stop old new d

-- why a stream was given up: violations from 101 on, faults from 201 on
abbrev pub stop_code : Option Stop → ℕ
stop_code None = done
stop_code (Some (Violated violation)) = 100 + violation_number violation
stop_code (Some (Fault fault)) = 200 + fault_number fault

-- what a delivery answers, as C reads it
abbrev pub shown : Delivery → LcmuxDelivery
shown d = record { code = stop_code d.stop; taken = d.taken; frames = d.frames }

-- a piece is delivered behind a handle that has a side, which answers this
pub record DeliversTo (side : Side) (piece : List ℕ) (after : Option Side) (answer : LcmuxDelivery) : Type 0 where
  pub new : Side
  pub stands : after ≡ Some new
  pub delivery : Delivery
  pub is : answer ≡ shown delivery
  pub delivers : DeliversAt side.intake.stop piece side new delivery

-- an empty handle takes nothing of a piece, and says so
pub record DeliversNowhere (after : Option Side) (answer : LcmuxDelivery) : Type 0 where
  pub is : answer ≡ record { code = no_peer; taken = 0; frames = 0 }
  pub stays : after ≡ None

-- a piece is delivered behind a handle
abbrev pub DeliversBehind : Option Side → List ℕ → Option Side → LcmuxDelivery → Type 0
DeliversBehind None piece after answer = DeliversNowhere after answer
DeliversBehind (Some side) piece after answer = DeliversTo side piece after answer

-- what goes out of a side behind a handle: the number is how many bytes were written, as many as there are and have room
pub record WritesOut (side : Side) (buffer : List ℕ) (after : Option Side) (buffer' : List ℕ) (answer : LcmuxAnswer) : Type 0 where
  pub new : Side
  pub stands : after ≡ Some new
  pub code : answer.code ≡ done
  pub count : answer.number ≡ min (length (text side)) (length buffer)
  pub written : buffer' ≡ take answer.number (text side) ++ drop answer.number buffer
  pub gives : GivesOut answer.number side new

-- an empty handle gives out nothing, and says so
pub record WritesNothing (buffer : List ℕ) (after : Option Side) (buffer' : List ℕ) (answer : LcmuxAnswer) : Type 0 where
  pub is : answer ≡ only no_peer
  pub stays : after ≡ None
  pub same : buffer' ≡ buffer

-- as many bytes go out behind a handle as there are and have room
abbrev pub WritesBehind : Option Side → List ℕ → Option Side → List ℕ → LcmuxAnswer → Type 0
WritesBehind None buffer after buffer' answer = WritesNothing buffer after buffer' answer
WritesBehind (Some side) buffer after buffer' answer = WritesOut side buffer after buffer' answer

-- how many bytes a write would give that has room
abbrev pub pending_answer : Option Side → LcmuxAnswer
pending_answer None = only no_peer
pending_answer (Some side) = record { code = done; number = length (text side) }

-- what it means that the stream ends here, by its code: why it was given up, if it was; else 204 inside a frame or a greeting
pub record EndsWith (intake : IntakeState) (code : ℕ) : Type 0 where
  pub end : Option Stop
  pub ends : IntakeEnds end intake
  pub is : code ≡ stop_code end

-- what the end of the stream means behind a handle
abbrev pub EndsBehind : Option Side → LcmuxAnswer → Type 0
EndsBehind None answer = answer ≡ only no_peer
EndsBehind (Some side) answer = EndsWith side.intake answer.code × (answer.number ≡ 0)

-- the bytes of the frame that goes out next, where nothing is left of what was begun before it, else none
abbrev pub next_bytes : Side → List ℕ
next_bytes side = if length side.pending.bytes == 0 then flat_map (encoding side.peer.version) (take 1 side.peer.waiting) else []

-- the bytes of the message of that frame, none where it has none
abbrev pub next_body : Side → List ℕ
next_body side = if length side.pending.bytes == 0 then flat_map body_of (take 1 side.peer.waiting) else []

-- what the call answers that lends them, and the one that counts them as gone: the number is how many they are
abbrev pub next_shown : ℕ → LcmuxAnswer
next_shown n = record { code = if n == 0 then empty else done; number = n }

-- the same behind a handle
abbrev pub next_answer : Option Side → LcmuxAnswer
next_answer None = only no_peer
next_answer (Some side) = next_shown (length (next_bytes side))

-- the bytes that are lent behind a handle
abbrev pub next_of : Option Side → List ℕ
next_of None = []
next_of (Some side) = next_bytes side

-- the bytes of the message among them
abbrev pub body_of_next : Option Side → List ℕ
body_of_next None = []
body_of_next (Some side) = next_body side

-- they went out of a side behind a handle, as by a write of as many bytes
pub record SentNext (side : Side) (after : Option Side) : Type 0 where
  pub new : Side
  pub stands : after ≡ Some new
  pub gives : GivesOut (length (next_bytes side)) side new

-- they went out behind a handle
abbrev pub SentBehind : Option Side → Option Side → Type 0
SentBehind None after = after ≡ None
SentBehind (Some side) after = SentNext side after
