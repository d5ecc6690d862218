-- What the own calls answer and leave, by those of the peer behind the handle.
use Rattle.std.specs.Prelude.{◌≡◌, ℕ, ◌⊎◌, Bool, if◌then◌else◌, List, Option, Some, None}
use Rattle.lc_frame.specs.declared.channel.Channel.{Channel}
use Rattle.lc_frame.specs.declared.frame.Frame.{Frame}
use Rattle.lc_frame.specs.declared.frame.Frame.TheVariants.{Send}
use Rattle.lc_book.specs.declared.fault.Refusal.{Refusal}
use Rattle.lc_book.specs.declared.fault.Refusal.TheVariants.{OutOfMemory}
use Rattle.lc_peer.specs.Calls.{refusal, refusal_by_books, put, due, honour_refusal, put_honour}
use Rattle.lc_c.specs.declared.answer.LcmuxAnswer.{LcmuxAnswer}
use Rattle.lc_c.specs.Side.{Side}
use Rattle.lc_c.specs.Answers.{done, only, refusal_answer, answer_of}
use Rattle.lc_c.specs.Reach.{answered, changed}

-- a call that puts a frame on a channel answers what the peer's call answers
abbrev pub frame_answer : Option Side → Option Channel → (Channel → Frame) → LcmuxAnswer
frame_answer held channel frame = answered held channel (λ side c. answer_of (refusal side.peer (frame c)))

-- where it is done the peer puts the frame, else nothing changes
abbrev pub put_where : Bool → (Channel → Frame) → Side → Channel → Side
put_where done frame side c = if done then record side { peer = put side.peer (frame c) } else side

-- what a call that puts a frame on a channel leaves behind the handle
abbrev pub frame_after : Bool → Option Side → Option Channel → (Channel → Frame) → Option Side
frame_after done held channel frame = changed held channel (put_where done frame)

-- a send alone may also want memory, where its book has no refusal
abbrev pub MayWantMemory : Option Side → Option Channel → List ℕ → Type 0
MayWantMemory (Some side) (Some c) body = refusal_by_books side.peer (Send c body) ≡ None
MayWantMemory held channel body = ⊥

-- what a send answers: what any call does that puts a frame, or want of memory where there may be one
abbrev pub SendAnswers : Option Side → Option Channel → List ℕ → LcmuxAnswer → Type 0
SendAnswers held channel body answer = (answer ≡ frame_answer held channel (λ c. Send c body)) ⊎ (MayWantMemory held channel body × (answer ≡ refusal_answer OutOfMemory))

-- what an honour answers by its refusal and by what it would absolve: the number is what it absolves
abbrev pub honoured : Option Refusal → Option ℕ → LcmuxAnswer
honoured (Some refusal) amount = refusal_answer refusal
honoured None None = only done
honoured None (Some amount) = record { code = done; number = amount }

-- what an honour answers
abbrev pub honour_answer : Option Side → Option Channel → LcmuxAnswer
honour_answer held channel = answered held channel (λ side c. honoured (honour_refusal side.peer c) (due side.peer c))

-- the side that an honour leaves: one that is refused changes nothing
abbrev pub honour_where : Option Refusal → Side → Channel → Side
honour_where None side c = record side { peer = put_honour side.peer c }
honour_where (Some refusal) side c = side

-- what an honour leaves behind the handle
abbrev pub honour_after : Option Side → Option Channel → Option Side
honour_after held channel = changed held channel (λ side c. honour_where (honour_refusal side.peer c) side c)
