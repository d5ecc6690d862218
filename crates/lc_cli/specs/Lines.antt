-- The lines of answers and of frames. These texts are this project's own.
use Rattle.std.specs.Prelude.{ℕ, List, [], ◌∷◌, ◌++◌, codes, Option, None, Some}
use Rattle.std.specs.Fmt.{decimal}
use Rattle.hex.specs.Hex.{encode_lower}
use Rattle.lc_frame.specs.declared.channel.Channel.{Channel}
use Rattle.lc_frame.specs.Channel.{number_of}
use Rattle.lc_frame.specs.declared.frame.Frame.{Frame}
use Rattle.lc_frame.specs.declared.frame.Frame.TheVariants as frame
use Rattle.lc_book.specs.Fault.{refusal_number, detail_of, violation_number}
use Rattle.lc_world.specs.declared.event.Answer.{Answer}
use Rattle.lc_world.specs.declared.event.Answer.TheVariants.{Accepted, Absolved, NothingToAbsolve, Arrived, Delivered, NothingInFlight, Violated, Took, Empty, Ended, Refused}

-- the line of a delivery, by its bytes and its whole frames
abbrev pub delivered_line : ℕ → ℕ → List ℕ
delivered_line bytes frames = codes "delivered " ++ (decimal bytes ++ (codes " bytes " ++ (decimal frames ++ codes " frames\n")))

-- the line of a refusal, by its number and, where it carries one, that number behind its name
abbrev pub refused_line : ℕ → Option (List ℕ × ℕ) → List ℕ
refused_line number None = codes "refused " ++ (decimal number ++ codes "\n")
refused_line number (Some (name, value)) = codes "refused " ++ (decimal number ++ (codes " " ++ (name ++ (codes " " ++ (decimal value ++ codes "\n")))))

-- the line of an answer
abbrev pub answer_line : Answer → List ℕ
answer_line Accepted = codes "ok\n"
answer_line (Absolved amount) = codes "absolved " ++ (decimal amount ++ (10 ∷ []))
answer_line NothingToAbsolve = codes "nothing to absolve\n"
answer_line Arrived = codes "arrived\n"
answer_line (Delivered bytes frames) = delivered_line bytes frames
answer_line NothingInFlight = codes "nothing in flight\n"
answer_line (Violated violation) = codes "violation V" ++ (decimal (violation_number violation) ++ (10 ∷ []))
answer_line (Took body) = codes "took " ++ (encode_lower body ++ (10 ∷ []))
answer_line Empty = codes "empty\n"
answer_line Ended = codes "ended\n"
answer_line (Refused refusal) = refused_line (refusal_number refusal) (detail_of refusal)

-- the line of a frame with a number
abbrev pub valued_line : List ℕ → Channel → ℕ → List ℕ
valued_line word c value = word ++ (32 ∷ (decimal (number_of c) ++ (32 ∷ (decimal value ++ (10 ∷ [])))))

-- the line of a frame
abbrev pub frame_line : Frame → List ℕ
frame_line (frame.Send c body) = codes "send " ++ (decimal (number_of c) ++ (32 ∷ (encode_lower body ++ (10 ∷ []))))
frame_line (frame.Issue c amount) = valued_line (codes "issue") c amount
frame_line (frame.Absolve c amount) = valued_line (codes "absolve") c amount
frame_line (frame.Plead c target) = valued_line (codes "plead") c target
frame_line (frame.LimitSending c bound) = valued_line (codes "limit-sending") c bound
frame_line (frame.LimitReceiving c bound) = valued_line (codes "limit-receiving") c bound
frame_line (frame.Finish c) = codes "finish " ++ (decimal (number_of c) ++ (10 ∷ []))
