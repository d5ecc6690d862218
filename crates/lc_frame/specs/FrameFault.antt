-- The numbers of the faults, and what they say, which are this project's own.
use Rattle.std.specs.Prelude.{ℕ, ◌==◌, Option, List, [], ◌∷◌, codes}
use Rattle.std.specs.Map.{lookup}
-- codes: begin faults
use Rattle.lc_frame.specs.declared.frame_fault.FrameFault.{FrameFault}
use Rattle.lc_frame.specs.declared.frame_fault.FrameFault.TheVariants.{BadTag, ZeroLength, BadNumber, Truncated}

-- codes: end

-- codes: begin numbers
-- the number of a fault, F1 to F4
abbrev pub fault_number : FrameFault → ℕ
fault_number BadTag = 1
fault_number ZeroLength = 2
fault_number BadNumber = 3
fault_number Truncated = 4

-- codes: end

-- what a table has beside a number
abbrev pub sentence_in : List (ℕ × List ℕ) → ℕ → Option (List ℕ)
sentence_in table number = lookup (λ named. named == number) table

-- codes: begin sentences
-- what the fault with a number says
abbrev pub fault_sentence : ℕ → Option (List ℕ)
fault_sentence = sentence_in
    ((1, codes "a byte names no kind or channel, or is not the greeting's")
    ∷ (2, codes "a message has length 0")
    ∷ (3, codes "a number in a frame is out of its range")
    ∷ (4, codes "the stream ends within a frame or a greeting")
    ∷ [])

-- codes: end
