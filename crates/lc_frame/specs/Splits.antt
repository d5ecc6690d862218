-- The frames of what is held of a stream, and a rest. These rules are this project's own.
use Rattle.std.specs.Prelude.{◌≡◌, ℕ, zero, suc, List, [], ◌∷◌, ◌++◌, length, take, drop, Option, Some, None}
use Rattle.std.specs.List.{flat_map, AllByRecursion}
use Rattle.std.specs.Option.{option_map_or}
use Rattle.lc_frame.specs.declared.version.Version.{Version}
use Rattle.lc_frame.specs.declared.frame.Frame.{Frame}
use Rattle.lc_frame.specs.declared.frame_fault.FrameFault.{FrameFault}
use Rattle.lc_frame.specs.declared.scan.Scan.{Scan}
use Rattle.lc_frame.specs.declared.scan.Scan.TheVariants.{Whole, Fault, Needs}
use Rattle.lc_frame.specs.Scan.{frame_in, scan_of}
use Rattle.lc_frame.specs.Stored.{Stored, IsValidIn, encoding_in, FrameIn, FaultIn}

-- the bytes of these frames, and then a rest at whose front no frame stands
pub record Splits (version : Option Version) (bytes : List ℕ) (frames : List Frame) (rest : List ℕ) : Type 0 where
  pub whole : bytes ≡ flat_map (encoding_in version) frames ++ rest
  pub each : AllByRecursion (IsValidIn version) frames
  pub partial : (f : Frame) → ¬ FrameIn version f rest

-- these are the first of the frames, and no fault stands at the front of what follows them
pub record Begins (version : Option Version) (frames first : List Frame) (rest : List ℕ) : Type 0 where
  pub others : List Frame
  pub is : frames ≡ first ++ others
  pub no_fault : (e : FrameFault) → ¬ FaultIn version e rest

-- the frame at the front and the bytes behind it, where a scan found one
abbrev pub first_frame : Version → Scan → List ℕ → Option (Frame × List ℕ)
first_frame v (Whole head used) bytes = Some (frame_in v head (take used bytes), drop used bytes)
first_frame v (Fault fault) bytes = None
first_frame v (Needs need) bytes = None

-- the frames at the front, so many at most, and the bytes behind them
abbrev pub split_in : Version → ℕ → List ℕ → List Frame × List ℕ
split_in v zero bytes = ([], bytes)
split_in v (suc turns) bytes = option_map_or (λ p. (p.0 ∷ (split_in v turns p.1).0, (split_in v turns p.1).1)) (first_frame v (scan_of v bytes) bytes) ([], bytes)

-- the same where a version is known; where none is, no frame stands there
abbrev pub split_as : Option Version → List ℕ → List Frame × List ℕ
split_as None bytes = ([], bytes)
split_as (Some v) bytes = split_in v (length bytes) bytes

-- all frames at the front of what is held. This computes, one frame a turn, as a scan finds it; the law frames_are_split says that it is what Splits says
abbrev pub frames_of : Stored → List Frame
frames_of h = (split_as h.version h.bytes).0

-- what is held behind these frames, computed with them
abbrev pub rest_of : Stored → Stored
rest_of h = record { version = h.version; bytes = (split_as h.version h.bytes).1 }
