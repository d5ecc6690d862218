-- What questions answer behind a handle: what the calls would answer, what a message needs, and what there is to do.
use Rattle.std.specs.Prelude.{◌≡◌, ℕ, ◌+◌, ◌-◌, nat_lt, List, length, map, Option, Some, None}
use Rattle.lc_frame.specs.declared.channel.Channel.{Channel}
use Rattle.lc_book.specs.declared.fault.Refusal.TheVariants.{NoGuarantee, QueueFull}
use Rattle.lc_book.specs.Fault.{refusal_number}
use Rattle.lc_peer.specs.declared.questions.Needs.{Needs}
use Rattle.lc_peer.specs.declared.questions.Needs.TheVariants.{Nothing, Guarantees, Slot, Never}
use Rattle.lc_peer.specs.declared.questions.Ready.{Ready}
use Rattle.lc_peer.specs.Questions.{send_refusal, ready_on}
use Rattle.lc_c.specs.declared.answer.LcmuxAnswer.{LcmuxAnswer}
use Rattle.lc_c.specs.declared.asking.LcmuxChannelReady.{LcmuxChannelReady}
use Rattle.lc_c.specs.declared.asking.LcmuxReady.{LcmuxReady}
use Rattle.lc_c.specs.Side.{Side}
use Rattle.lc_c.specs.Answers.{done, only, no_peer, never, refusal_answer, answer_of, sized, filled}
use Rattle.lc_c.specs.Balances.{flag}
use Rattle.lc_c.specs.Reach.{answered}

-- the answer that is a number
abbrev pub told : ℕ → LcmuxAnswer
told number = record { code = done; number = number }

-- what a send of so many bytes would answer, whatever they are
abbrev pub would_send_answer : Option Side → Option Channel → ℕ → LcmuxAnswer
would_send_answer held channel len = answered held channel (λ side c. answer_of (send_refusal side.peer c len))

-- what a message needs: the number of code 4 is here how many guarantees are missing
abbrev pub needs_shown : Needs → LcmuxAnswer
needs_shown Nothing = only done
needs_shown (Guarantees missing) = record { code = refusal_number (NoGuarantee 0); number = missing }
needs_shown Slot = refusal_answer QueueFull
needs_shown Never = only never

-- how many frames more may wait
abbrev pub slots_answer : Option Side → LcmuxAnswer
slots_answer None = only no_peer
slots_answer (Some side) = told (side.peer.slots - length side.peer.waiting)

-- 1 where anything is pending or waits, else 0
abbrev pub wants_answer : Option Side → LcmuxAnswer
wants_answer None = only no_peer
wants_answer (Some side) = told (flag (nat_lt 0 (length side.pending.bytes + length side.peer.waiting)))

-- what there is to do on a channel, as C reads it
abbrev pub ready_shown : Ready → LcmuxChannelReady
ready_shown r = record { message = flag r.message; ended = flag r.ended; plead = flag r.plead; finished = flag r.finished; finished_there = flag r.finished_there }

-- the bytes of a struct for what there is to do
abbrev pub ready_size : ℕ
ready_size = 288

-- what there is to do on these channels behind a handle, in a struct whose size the caller wrote into it; an empty handle says nothing
abbrev pub ReadyBehind : List Channel → Option Side → LcmuxReady → LcmuxReady → LcmuxAnswer → Type 0
ReadyBehind channels None old new answer = (new ≡ old) × (answer ≡ only no_peer)
ReadyBehind channels (Some side) old new answer = (new ≡ filled old.size ready_size (record { size = old.size; channels = map ready_shown (map (ready_on side.peer) channels) }) old) × (answer ≡ sized old.size ready_size)
