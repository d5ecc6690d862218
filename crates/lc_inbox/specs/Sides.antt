-- What contracts see of the two sides that share an inbox, and what each call does. That a server's book judges what arrives, and what it issues, is LCMUX's; that each side knows its own part of one history is this project's own.
use Rattle.std.specs.Prelude.{◌≡◌, ℕ, ◌+◌, Bool, List, [], ◌∷◌, ◌++◌, length, Option, Some, None}
use Rattle.atomic_table.specs.Seated.{TableId}
use Rattle.lc_history.specs.History.{IsHistory, Knows, Learns, Makes}
use Rattle.lc_frame.specs.Channel.{channel_count, number_of}
use Rattle.lc_frame.specs.Stream.{messages}
use Rattle.lc_frame.specs.declared.frame.Frame.{Frame}
use Rattle.lc_book.specs.declared.fault.Refusal.{Refusal}
use Rattle.lc_book.specs.declared.fault.Violation.{Violation}
use Rattle.lc_book.specs.Server.{Server}
use Rattle.lc_ring.specs.Ring.{front, with_front}
use Rattle.lc_peer.specs.Inbox.{take_refusal, take_answer}
use Rattle.lc_peer.specs.declared.inbox.Take.{Take}
use Rattle.lc_peer.specs.declared.inbox.Take.TheVariants.{Took as TookMessage}
use Rattle.lc_queue.specs.Parts.{End}
use Rattle.lc_inbox.specs.declared.history.Entry.{Entry}
use Rattle.lc_inbox.specs.declared.history.Entry.TheVariants.{Heard, Refused, Put, Took}
use Rattle.lc_inbox.specs.declared.rule.Key.{Key}
use Rattle.lc_inbox.specs.Ends.{violation_of, IsReason}
use Rattle.lc_inbox.specs.History.{heard, put, took, book_after, inbox_after, lane_after, held_after, MayFollow, IsInOrder, IsLeftBy, Loan, is_of, is_reading, is_receiving}

-- which inbox it is: no two have the same
abbrev pub InboxId : Type 0
InboxId = TableId

-- one half of the lock, with the inbox while it has it. It serves `src/half.rt`
pub record Half : Type 0 where
  pub inbox : InboxId
  pub key : Key
  pub side : Bool
  pub seen : List Entry
  pub turns : ℕ
  pub lent : Option Loan

-- one side: which inbox it is of, what that was made of, how its history begins, and how many turns it had: how often it took the inbox, of which each call is one
pub record InboxSide : Type 0 where
  pub inbox : InboxId
  pub key : Key
  pub seen : List Entry
  pub turns : ℕ

-- the side that a half is
abbrev pub side_of : Half → InboxSide
side_of h = record { inbox = h.inbox; key = h.key; seen = h.seen; turns = h.turns }

-- a half that has not got the inbox
pub record IsIdle (side : Bool) (h : Half) : Type 0 where
  pub side_is : h.side ≡ side
  pub lent : h.lent ≡ None

-- a half took the inbox, which is as its whole history leaves it
pub record HasTaken (old new : Half) : Type 0 where
  pub loan : Loan
  pub is : new ≡ record old { turns = old.turns + 1; lent = Some loan }
  pub knows : Knows (is_of old.side) old.seen loan.history
  pub left : IsLeftBy old.key loan.held loan.history

-- it is still a side of the same inbox
pub record IsSameSide (old new : InboxSide) : Type 0 where
  pub inbox : new.inbox ≡ old.inbox
  pub key : new.key ≡ old.key

-- it had the inbox once: all that the call did and answered is of this one turn
abbrev pub HadOneTurn : InboxSide → InboxSide → Type 0
HadOneTurn old new = new.turns ≡ old.turns + 1

-- both are sides of one inbox
abbrev pub AreOfOne : InboxSide → InboxSide → Type 0
AreOfOne incoming outgoing = incoming.inbox ≡ outgoing.inbox

-- both sides of a new inbox of this capacity, which puts on this lane: they are of one inbox, and nothing has happened
pub record IsNew (capacity : ℕ) (lane : End) (incoming outgoing : InboxSide) : Type 0 where
  pub one : outgoing ≡ incoming
  pub seen : incoming.seen ≡ []
  pub turns : incoming.turns ≡ 0
  pub channel_is : lane.lane ≡ channel_count + number_of incoming.key.channel
  pub capacity_is : incoming.key.capacity ≡ capacity
  pub lane_is : incoming.key.lane.value ≡ lane

-- a frame arrived, which is no violation by the book of the whole history before it
pub record IsHeard (f : Frame) (old new : InboxSide) : Type 0 where
  pub makes : Makes (MayFollow old.key) is_reading old.seen (Heard f) new.seen
  pub lawful : violation_of f (book_after old.key makes.before) ≡ None
  pub heard : heard new.seen ≡ heard old.seen ++ f ∷ []

-- a frame was refused, by the violation that this book has; it changed nothing but the history
pub record IsViolated (v : Violation) (f : Frame) (old new : InboxSide) : Type 0 where
  pub makes : Makes (MayFollow old.key) is_reading old.seen (Refused f) new.seen
  pub violation : violation_of f (book_after old.key makes.before) ≡ Some v
  pub heard : heard new.seen ≡ heard old.seen

-- the receiving side has seen the whole history up to here, and made no entry
pub record HasLooked (old new : InboxSide) : Type 0 where
  pub learns : Learns (MayFollow old.key) is_receiving old.seen new.seen
  pub put : put new.seen ≡ put old.seen
  pub took : took new.seen ≡ took old.seen

-- a frame was put, which the book of the whole history before it allowed
pub record IsPutBy (f : Frame) (old new : InboxSide) : Type 0 where
  pub makes : Makes (MayFollow old.key) is_receiving old.seen (Put f) new.seen
  pub put : put new.seen ≡ put old.seen ++ f ∷ []
  pub took : took new.seen ≡ took old.seen

-- it was not put, and the whole history up to here says why
pub record IsNotPutBy (e : Refusal) (f : Frame) (old new : InboxSide) : Type 0 where
  pub looks : HasLooked old new
  pub reason : IsReason e f (held_after old.key new.seen)

-- a message was taken: the first that waited
pub record IsTaken (body : List ℕ) (old new : InboxSide) : Type 0 where
  pub makes : Makes (MayFollow old.key) is_receiving old.seen (Took body) new.seen
  pub first : front (inbox_after old.key makes.before).ring ≡ Some body
  pub put : put new.seen ≡ put old.seen
  pub took : took new.seen ≡ took old.seen ++ body ∷ []

-- what a take answers, by the inbox of the whole history before it, and what it does with the buffer
abbrev pub IsTakeAnswer : Take → List ℕ → List ℕ → InboxSide → InboxSide → Type 0
IsTakeAnswer (TookMessage len) buffer filled old new = (body : List ℕ) × IsTaken body old new × (len ≡ length body) × (filled ≡ with_front (Some body) buffer)
IsTakeAnswer take buffer filled old new = HasLooked old new × (take ≡ take_answer (inbox_after old.key new.seen)) × (filled ≡ buffer)

-- why nothing was taken: the buffer is shorter than the first message
pub record IsNotTaken (e : Refusal) (buffer filled : List ℕ) (old new : InboxSide) : Type 0 where
  pub looks : HasLooked old new
  pub refusal : take_refusal (inbox_after old.key new.seen) (length buffer) ≡ Some e
  pub same : filled ≡ buffer

-- the end: both sides know how one history begins and all their own entries, the book and the lane are those that it leaves, and what arrived, what was put and what was taken is what its sides know of it
pub record IsFinished (incoming outgoing : InboxSide) (book : Server) (lane : End) : Type 0 where
  pub history : List Entry
  pub legal : IsHistory (MayFollow incoming.key) history
  pub reads : Knows is_reading incoming.seen history
  pub receives : Knows is_receiving outgoing.seen history
  pub book_is : book ≡ book_after incoming.key history
  pub lane_is : lane ≡ lane_after incoming.key history
  pub heard : heard history ≡ heard incoming.seen
  pub put : put history ≡ put outgoing.seen
  pub took : took history ≡ took outgoing.seen
  pub in_order : IsInOrder incoming.key history

-- the messages that the receiving side took are the first of those that the reading side heard; the others wait
abbrev pub TookTheFirst : InboxSide → InboxSide → Type 0
TookTheFirst incoming outgoing = (others : List (List ℕ)) × (messages incoming.key.channel (heard incoming.seen) ≡ took outgoing.seen ++ others)

-- wherever both sides have ended, the receiving side took the first of the messages that the reading side heard
abbrev pub EveryFinishIsInOrder : Type 0
EveryFinishIsInOrder = (incoming outgoing : InboxSide) (book : Server) (lane : End) → IsFinished incoming outgoing book lane → TookTheFirst incoming outgoing
