-- When a decoder takes a byte, and when it stands between frames again.
use Rattle.std.proofs.Common.{◌≡◌, ℕ, List, [], zero, suc, ◌<◌, length, take, subst, sym, ◌∙◌, arith}
use Rattle.lc_frame.specs.declared.frame.Frame.{Frame}
use Rattle.lc_frame.specs.declared.frame_fault.FrameFault.{FrameFault}
use Rattle.lc_frame.specs.Stored.{Stored, fed, IsSettled, IsValidIn, encoding_in, HasFrame, HasFault, IsUndecided, IsDecided}
use Rattle.lc_frame.proofs.Stored.{fed_nothing, nothing_in, whole_has}
use Rattle.lc_frame.proofs.Openings.{undecided_not}

-- a decoder between two frames, or within one, takes a byte of a piece that has one
pub takes_one : (old new : Stored) (piece : List ℕ) (n : ℕ) → IsUndecided old → IsSettled old → new ≡ fed old (take n piece) → (n < length piece → IsDecided new) → 0 < length piece → 0 < n
takes_one old new piece zero undecided settled held stop some =
    absurd (undecided_not old undecided (subst IsDecided (held ∙ fed_nothing old settled) (stop some)))
takes_one old new piece (suc n) undecided settled held stop some = omega arith

-- a whole frame is cleared
pub cleared_open : (before middle after : Stored) (f : Frame) → middle ≡ before → IsValidIn before.version f × (before.bytes ≡ encoding_in before.version f)
    → ((f : Frame) → HasFrame f middle → after ≡ record middle { bytes = [] }) → IsUndecided after
cleared_open before middle after f same (valid, whole) clear =
    let stands : HasFrame f before = whole_has f before (valid, whole) in
    subst IsUndecided (sym (clear f (subst (HasFrame f) (sym same) stands))) (nothing_in middle.version)

-- neither a frame nor a fault came to stand
pub kept_open : (before middle after : Stored) → middle ≡ before → ((f : Frame) → ¬ HasFrame f before) → ((e : FrameFault) → ¬ HasFault e before)
    → (((f : Frame) → ¬ HasFrame f middle) → after ≡ middle) → IsUndecided after
kept_open before middle after same frames faults clear =
    let still : after ≡ before = clear (subst (λ (held : Stored). (f : Frame) → ¬ HasFrame f held) (sym same) frames) ∙ same in
    subst IsUndecided (sym still) (record { no_frame = frames; no_fault = faults })
