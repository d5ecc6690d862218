-- What takes answer, leave and give, by those of the peer behind the handle.
use Rattle.std.specs.Prelude.{ℕ, List, length, Option, Some, None}
use Rattle.lc_frame.specs.declared.channel.Channel.{Channel}
use Rattle.lc_book.specs.declared.fault.Refusal.{Refusal}
use Rattle.lc_ring.specs.Ring.{front, with_front}
use Rattle.lc_peer.specs.declared.inbox.Take.{Take}
use Rattle.lc_peer.specs.declared.inbox.Take.TheVariants.{Took, Empty, Ended}
use Rattle.lc_peer.specs.Inbox as inboxes
use Rattle.lc_peer.specs.Inbox.{take_refusal}
use Rattle.lc_peer.specs.Peer.{PeerState, inbox}
use Rattle.lc_peer.specs.Calls.{take_on}
use Rattle.lc_c.specs.declared.answer.LcmuxAnswer.{LcmuxAnswer}
use Rattle.lc_c.specs.Side.{Side}
use Rattle.lc_c.specs.Answers.{done, only, empty, ended, refusal_answer}
use Rattle.lc_c.specs.Reach.{answered, changed, given}

-- what a take answers, as C reads it: the number is the length of the message
abbrev pub take_shown : Take → LcmuxAnswer
take_shown (Took len) = record { code = done; number = len }
take_shown Empty = only empty
take_shown Ended = only ended

-- the same, unless it is refused
abbrev pub take_unless : Option Refusal → Take → LcmuxAnswer
take_unless None take = take_shown take
take_unless (Some refusal) take = refusal_answer refusal

-- what a take into a buffer of so many bytes answers
abbrev pub take_answer : Option Side → Option Channel → ℕ → LcmuxAnswer
take_answer held channel room = answered held channel (λ side c. take_unless (take_refusal (inbox side.peer c) room) (inboxes.take_answer (inbox side.peer c)))

-- the side that a take leaves: one that is refused changes nothing
abbrev pub taken_where : Option Refusal → Side → Channel → Side
taken_where None side c = record side { peer = take_on side.peer c }
taken_where (Some refusal) side c = side

-- what a take leaves behind the handle
abbrev pub take_after : Option Side → Option Channel → ℕ → Option Side
take_after held channel room = changed held channel (λ side c. taken_where (take_refusal (inbox side.peer c) room) side c)

-- what a pop leaves behind the handle
abbrev pub pop_after : Option Side → Option Channel → Option Side
pop_after held channel = changed held channel (taken_where None)

-- the buffer when a message stands at its front, which is else as it was
abbrev pub filled_where : Option Refusal → Option (List ℕ) → List ℕ → List ℕ
filled_where None message buffer = with_front message buffer
filled_where (Some refusal) message buffer = buffer

-- the buffer that a take leaves
abbrev pub filled : Option Side → Option Channel → List ℕ → List ℕ
filled held channel buffer = given held channel (λ side c. filled_where (take_refusal (inbox side.peer c) (length buffer)) (front (inbox side.peer c).ring) buffer) buffer

-- what a take would answer that has room
abbrev pub front_answer : PeerState → Channel → LcmuxAnswer
front_answer p c = take_shown (inboxes.take_answer (inbox p c))
