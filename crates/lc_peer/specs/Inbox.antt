-- The receiving end of one channel: its server's book, the messages that wait to be taken, and what a take answers and leaves. That a server buffers what its guarantees promised is LCMUX's; what a take answers is this project's own.
use Rattle.std.specs.Prelude.{◌≡◌, ℕ, zero, Bool, true, false, ◌+◌, [], length, nat_lt, if◌then◌else◌, Option, Some, None}
use Rattle.std.specs.Option.{option_map}
use Rattle.lc_book.specs.declared.fault.Refusal.{Refusal}
use Rattle.lc_book.specs.declared.fault.Refusal.TheVariants.{BufferTooSmall}
use Rattle.lc_book.specs.Server.{Server, IsServer, new_server, buffered, IsEnded, note_taken, AreFreed}
use Rattle.lc_ring.specs.Ring.{Ring, IsRing, IsLength, new_ring, bytes, front, pop}
use Rattle.lc_peer.specs.declared.inbox.Take.{Take}
use Rattle.lc_peer.specs.declared.inbox.Take.TheVariants.{Took, Empty, Ended}

-- the book of a channel's server, and the ring of what is buffered
pub record InboxState : Type 0 where
  pub book : Server
  pub ring : Ring

-- an inbox on which nothing has happened
abbrev pub new_inbox : ℕ → InboxState
new_inbox capacity = record { book = new_server capacity; ring = new_ring capacity }

-- a ring of a book: it has room for as many bytes, and its messages have those that are buffered
pub record IsRingOf (book : Server) (ring : Ring) : Type 0 where
  pub capacity : ring.capacity ≡ book.capacity
  pub bytes : bytes ring ≡ buffered book

-- what every inbox keeps: the book and the ring keep what they keep alone, and the ring is the book's
pub record IsInbox (i : InboxState) : Type 0 where
  pub book : IsServer i.book
  pub ring : IsRing i.ring
  pub agrees : IsRingOf i.book i.ring

-- what a take answers where no message waits: that none will come, because the client finished or its limit is used up, or that none waits
abbrev pub none_waiting : Bool → Option ℕ → Take
none_waiting true left = Ended
none_waiting false (Some zero) = Ended
none_waiting false left = Empty

-- what a take answers by the book and the length of the first message, where one waits
abbrev pub answer_by_length : Server → Option ℕ → Take
answer_by_length book None = none_waiting book.finished book.send_left
answer_by_length book (Some len) = Took len

-- what a take answers: the length of the first message, or what none_waiting says
abbrev pub take_answer : InboxState → Take
take_answer i = answer_by_length i.book (option_map length (front i.ring))

-- a message that was taken has a length that messages have
abbrev pub IsTake : Take → Type 0
IsTake (Took len) = IsLength len
IsTake Empty = Unit {0}
IsTake Ended = Unit {0}

-- the book when a first message of this length was taken; where none waits it is as it was
abbrev pub note_front : Server → Option ℕ → Server
note_front book None = book
note_front book (Some len) = note_taken book len

-- what a take leaves: the first message is out of the ring, and counted as taken; where none waits nothing changes
abbrev pub take_first : InboxState → InboxState
take_first i = record { book = note_front i.book (option_map length (front i.ring)); ring = pop i.ring }

-- why a message is not taken into a buffer of so many bytes: it is longer
abbrev pub too_long : Option ℕ → ℕ → Option Refusal
too_long None room = None
too_long (Some len) room = if nat_lt room len then Some (BufferTooSmall len) else None

-- why a take into a buffer of so many bytes is refused: the first message is longer
abbrev pub take_refusal : InboxState → ℕ → Option Refusal
take_refusal i room = too_long (option_map length (front i.ring)) room

-- a refusal of a take names the length that a buffer needs, which is one that messages have
abbrev pub NamesLength : Refusal → Type 0
NamesLength (BufferTooSmall need) = IsLength need
NamesLength refusal = ⊥

-- one message fewer waits, and its bytes are room again
pub record TookOne (len : ℕ) (old new : InboxState) : Type 0 where
  pub one_less : length new.ring.messages + 1 ≡ length old.ring.messages
  pub freed : AreFreed len old.book new.book

-- no message waits, and nothing changed
pub record NoneWaits (old new : InboxState) : Type 0 where
  pub none : new.ring.messages ≡ []
  pub same : new ≡ old

-- what an answer says of an inbox before the take and after it
abbrev pub Takes : Take → InboxState → InboxState → Type 0
Takes (Took len) old new = TookOne len old new
Takes Empty old new = NoneWaits old new
Takes Ended old new = NoneWaits old new × IsEnded new.book
