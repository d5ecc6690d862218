-- The history of one inbox: what its two sides did, in one order, when an entry may follow those before it, and the inbox that a history leaves. Say that on a new inbox of 8 bytes the receiving side issued 5 guarantees, then `hi` arrived, then it was taken: the history is Put (Issue 5), Heard (Send `hi`), Took `hi`, and it leaves a book with 3 bytes outstanding, no message that waits, and one frame on the lane. That a server judges what arrives by what it issued, and hands its messages out in order, is LCMUX's; the entries are this project's own.
use Rattle.std.specs.Prelude.{◌≡◌, ℕ, ◌+◌, Bool, true, false, List, ◌++◌, length, drop, sum_by, Option, Some, None}
use Rattle.std.specs.List.{filter_map}
use Rattle.lc_history.specs.History.{IsHistory}
use Rattle.lc_frame.specs.declared.frame.Frame.{Frame}
use Rattle.lc_frame.specs.Channel.{channel_count, number_of}
use Rattle.lc_frame.specs.Frame.{lane_of}
use Rattle.lc_frame.specs.Stream.{messages}
use Rattle.lc_book.specs.declared.fault.Violation.{Violation}
use Rattle.lc_book.specs.Server.{Server}
use Rattle.lc_book.specs.Sums.{server_of}
use Rattle.lc_ring.specs.Ring.{front}
use Rattle.lc_peer.specs.Inbox.{InboxState}
use Rattle.lc_queue.specs.Parts.{End}
use Rattle.lc_inbox.specs.declared.history.Entry.{Entry}
use Rattle.lc_inbox.specs.declared.history.Entry.TheVariants.{Heard, Refused, Put, Took}
use Rattle.lc_inbox.specs.declared.rule.Key.{Key}
use Rattle.lc_inbox.specs.Ends.{Held, violation_of, refusal_of}

-- the frame that an entry heard
abbrev pub heard_of : Entry → Option Frame
heard_of (Heard f) = Some f
heard_of e = None

-- the frame that an entry put
abbrev pub put_of : Entry → Option Frame
put_of (Put f) = Some f
put_of e = None

-- the message that an entry took
abbrev pub took_of : Entry → Option (List ℕ)
took_of (Took body) = Some body
took_of e = None

-- the frames that arrived, in order
abbrev pub heard : List Entry → List Frame
heard history = filter_map heard_of history

-- the frames that were put, in order
abbrev pub put : List Entry → List Frame
put history = filter_map put_of history

-- the messages that were taken, in order
abbrev pub took : List Entry → List (List ℕ)
took history = filter_map took_of history

-- the book that a history leaves
abbrev pub book_after : Key → List Entry → Server
book_after key history = server_of key.capacity key.channel (put history) (heard history) (sum_by length (took history))

-- the messages that wait after a history: those that arrived without those taken
abbrev pub waiting : Key → List Entry → List (List ℕ)
waiting key history = drop (length (took history)) (messages key.channel (heard history))

-- the inbox that a history leaves
abbrev pub inbox_after : Key → List Entry → InboxState
inbox_after key history = record { book = book_after key history; ring = record { messages = waiting key history; capacity = key.capacity } }

-- the end of the lane that a history leaves
abbrev pub lane_after : Key → List Entry → End
lane_after key history = record key.lane.value { put = put history }

-- all that a history leaves
abbrev pub held_after : Key → List Entry → Held
held_after key history = record { channel = key.channel; inbox = inbox_after key history; lane = lane_after key history }

-- a frame of the client arrives where it is no violation, and is refused where it is one, by the book that the entries before it leave. A frame is put where that book allows it. The message that is taken is the first that waits
abbrev pub MayFollow : Key → List Entry → Entry → Type 0
MayFollow key history (Heard f) = (lane_of f ≡ number_of key.channel) × (violation_of f (book_after key history) ≡ None)
MayFollow key history (Refused f) = (lane_of f ≡ number_of key.channel) × ((v : Violation) × (violation_of f (book_after key history) ≡ Some v))
MayFollow key history (Put f) = (lane_of f ≡ channel_count + number_of key.channel) × (refusal_of f (book_after key history) ≡ None)
MayFollow key history (Took body) = front (inbox_after key history).ring ≡ Some body

-- whether an entry is the reading side's
abbrev pub is_reading : Entry → Bool
is_reading (Heard f) = true
is_reading (Refused f) = true
is_reading e = false

-- whether an entry is the receiving side's
abbrev pub is_receiving : Entry → Bool
is_receiving (Put f) = true
is_receiving (Took body) = true
is_receiving e = false

-- whether an entry is of a side, true being the reading one
abbrev pub is_of : Bool → Entry → Bool
is_of true = is_reading
is_of false = is_receiving

-- the messages that arrived are those that were taken, and then those that wait
abbrev pub IsInOrder : Key → List Entry → Type 0
IsInOrder key history = messages key.channel (heard history) ≡ took history ++ waiting key history

-- a history leaves the channel, its inbox and its lane so
pub record IsLeftBy (key : Key) (held : Held) (history : List Entry) : Type 0 where
  pub legal : IsHistory (MayFollow key) history
  pub is : held ≡ held_after key history

-- the inbox while a side has it: the whole history when it was taken, and the inbox as it is by now
pub record Loan : Type 0 where
  pub history : List Entry
  pub held : Held

-- in every history the messages that arrived are those that were taken, and then those that wait
abbrev pub EveryHistoryIsInOrder : Type 0
EveryHistoryIsInOrder = (key : Key) (history : List Entry) → IsHistory (MayFollow key) history → IsInOrder key history
