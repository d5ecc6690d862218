-- What a listing prints of a stream. That a stream may be cut at any byte is this project's own to say.
use Rattle.std.specs.Prelude.{◌≡◌, ℕ, List, Option}
use Rattle.std.specs.List.{flat_map, AllByRecursion}
use Rattle.std.specs.Io.KnownBytes.{Appends}
use Rattle.lc_frame.specs.declared.frame.Frame.{Frame}
use Rattle.lc_frame.specs.Stored.{Stored, opened, fed, before, IsValidIn, encoding_in}
use Rattle.lc_cli.specs.Lines.{frame_line}

-- these bytes are a whole stream of these frames, behind its greeting if it has one
pub record IsStreamOf (bytes : List ℕ) (frames : List Frame) : Type 0 where
  pub each : AllByRecursion (IsValidIn (opened bytes).version) frames
  pub whole : (opened bytes).bytes ≡ flat_map (encoding_in (opened bytes).version) frames

-- these bytes are a whole stream
abbrev pub IsStream : List ℕ → Type 0
IsStream bytes = (frames : List Frame) × IsStreamOf bytes frames

-- these bytes are a whole stream, and the line of each of its frames was printed, in order
pub record Lists (bytes : List ℕ) (old new : Option (List ℕ)) : Type 0 where
  pub frames : List Frame
  pub are : IsStreamOf bytes frames
  pub printed : Appends old new (flat_map frame_line frames)

-- behind what was held these bytes came, and the line of each frame that became whole was printed, and the rest is held
pub record ListsOn (held : Stored) (bytes : List ℕ) (held' : Stored) (old new : Option (List ℕ)) : Type 0 where
  pub frames : List Frame
  pub each : AllByRecursion (IsValidIn held'.version) frames
  pub whole : fed held bytes ≡ before frames held'
  pub printed : Appends old new (flat_map frame_line frames)
