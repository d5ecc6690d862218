-- The sentences of the codes, and how a program is told one. Both are this project's own.
use Rattle.std.specs.Prelude.{ℕ, ◌+◌, ◌-◌, ◌*◌, ◌&&◌, nat_lt, if◌then◌else◌, Option, Some, None, List, [], ◌∷◌, ◌++◌, length, drop, codes}
use Rattle.lc_frame.specs.FrameFault.{sentence_in, fault_sentence}
use Rattle.lc_book.specs.declared.fault.Refusal.TheVariants.{BufferTooSmall}
use Rattle.lc_book.specs.Fault.{refusal_sentence, violation_sentence}
use Rattle.lc_c.specs.declared.answer.LcmuxAnswer.{LcmuxAnswer}
use Rattle.lc_c.specs.Answers.{done, only, no_code, refusal_answer}

-- a version of the library as one number
abbrev pub version : ℕ → ℕ → ℕ → ℕ
version major minor patch = 65536 * major + 256 * minor + patch

-- codes: begin sentences of results
-- done, and the codes of handles, configurations and takes
abbrev pub own_sentence : ℕ → Option (List ℕ)
own_sentence = sentence_in
    ((0, codes "done")
    ∷ (32, codes "the handle is empty")
    ∷ (33, codes "the handle has a peer already")
    ∷ (34, codes "there is no such channel")
    ∷ (35, codes "there is no such version of the format")
    ∷ (36, codes "a capacity is not 1 to 2^24")
    ∷ (37, codes "the slots are not 1 to 65,536")
    ∷ (38, codes "there is no such code")
    ∷ (39, codes "a struct is shorter than its size has to be")
    ∷ (48, codes "no message waits")
    ∷ (49, codes "no message waits, and none will come")
    ∷ (50, codes "the message can never be sent")
    ∷ (51, codes "the call waits")
    ∷ (52, codes "no notice is there")
    ∷ (53, codes "the offered message can be sent")
    ∷ (64, codes "this side closed the session")
    ∷ (65, codes "the peer closed the session")
    ∷ (66, codes "the stream ended before the peer finished")
    ∷ (67, codes "the session was aborted")
    ∷ (68, codes "the transport failed")
    ∷ [])

-- codes: end

-- the sentence of a code: a refusal's is its number, a violation's 100 more and a fault's 200 more; a
-- number that is no code has none
unfoldable pub sentence : ℕ → Option (List ℕ)
sentence code =
    if nat_lt 0 code && nat_lt code 32 then refusal_sentence code
    else if nat_lt code 100 then own_sentence code
    else if nat_lt code 200 then violation_sentence (code - 100)
    else fault_sentence (code - 200)

-- a sentence needs room for itself and a zero byte
abbrev pub text_answer : Option (List ℕ) → ℕ → LcmuxAnswer
text_answer None room = only no_code
text_answer (Some sentence) room = if nat_lt (length sentence) room then record { code = done; number = length sentence } else refusal_answer (BufferTooSmall (length sentence + 1))

-- both stand at the front of a buffer that has the room, which is else as it was
abbrev pub text_in : Option (List ℕ) → List ℕ → List ℕ
text_in None buffer = buffer
text_in (Some sentence) buffer = if nat_lt (length sentence) (length buffer) then sentence ++ 0 ∷ drop (length sentence + 1) buffer else buffer
