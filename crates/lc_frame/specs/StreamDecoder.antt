-- What the end of a stream means to what is held of it. These rules are this project's own.
use Rattle.std.specs.Prelude.{◌≡◌, ℕ, ◌<◌, ◌⊎◌, List, [], length, Result, Ok, Err}
use Rattle.lc_frame.specs.declared.frame.Frame.{Frame}
use Rattle.lc_frame.specs.declared.frame_fault.FrameFault.{FrameFault}
use Rattle.lc_frame.specs.declared.frame_fault.FrameFault.TheVariants.{Truncated}
use Rattle.lc_frame.specs.declared.decoded.Decoded.{Decoded}
use Rattle.lc_frame.specs.declared.decoded.Decoded.TheVariants.{More}
use Rattle.lc_frame.specs.Stored.{Stored, fed, HasFrame, HasFault, IsUndecided}

-- part of a frame or of a greeting is there, and no fault
pub record IsPart (h : Stored) : Type 0 where
  pub begun : 0 < length h.bytes
  pub undecided : IsUndecided h

-- the stream may end before a frame or behind a whole one; in a fault it ends with that, in part of a frame or of a greeting with Truncated
abbrev pub EndsAs : {T : Type 0} → Result T FrameFault → Stored → Type 0
EndsAs (Ok _) h = (h.bytes ≡ []) ⊎ ((f : Frame) × HasFrame f h)
EndsAs (Err Truncated) h = IsPart h
EndsAs (Err fault) h = HasFault fault h

-- a piece of which no more can be told is held, and nothing of another
abbrev pub TakesMore : Decoded → Stored → List ℕ → Stored → Type 0
TakesMore More old piece new = new ≡ fed old piece
TakesMore answer old piece new = new ≡ old
