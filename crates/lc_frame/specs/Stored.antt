-- What is held of a stream, of which the first bytes say its version, and what stands at the front of that. These rules are this project's own.
use Rattle.std.specs.Prelude.{◌≡◌, ℕ, ◌⊎◌, List, [], ◌++◌, length, take, drop, Option, Some, None}
use Rattle.std.specs.List.{flat_map}
use Rattle.lc_frame.specs.declared.version.Version.{Version}
use Rattle.lc_frame.specs.declared.frame.Frame.{Frame}
use Rattle.lc_frame.specs.declared.frame_fault.FrameFault.{FrameFault}
use Rattle.lc_frame.specs.declared.frame_fault.FrameFault.TheVariants.{BadTag}
use Rattle.lc_frame.specs.Version.{greeting, version_of, GreetingBreaks}
use Rattle.lc_frame.specs.Frame.{IsValid}
use Rattle.lc_frame.specs.Encoding.{encoding, FrameStands, FaultStands}

-- the version of the stream, where it is known, and the bytes that came since then, or since a frame ended: where it is not known, all bytes
pub record Stored : Type 0 where
  pub version : Option Version
  pub bytes : List ℕ

-- nothing came yet
abbrev pub nothing_stored : Stored
nothing_stored = record { version = None; bytes = [] }

-- bytes of frames of a version
abbrev pub stored_in : Version → List ℕ → Stored
stored_in v bytes = record { version = Some v; bytes = bytes }

-- what is stored of a stream of which these are the bytes from its start, which tell this version: a greeting is gone once it is whole
abbrev pub opened_as : Option Version → List ℕ → Stored
opened_as None bytes = record { version = None; bytes = bytes }
opened_as (Some v) bytes = stored_in v (drop (length (greeting v)) bytes)

-- the same, by the version that the bytes tell
abbrev pub opened : List ℕ → Stored
opened bytes = opened_as (version_of bytes) bytes

-- what is stored with these bytes: those behind a version that is known, or else those of the stream from its start, which may tell it
abbrev pub stored_as : Option Version → List ℕ → Stored
stored_as None bytes = opened bytes
stored_as (Some v) bytes = stored_in v bytes

-- what is stored once these bytes come too
abbrev pub fed : Stored → List ℕ → Stored
fed h more = stored_as h.version (h.bytes ++ more)

-- the version is known as soon as the bytes tell it
abbrev pub IsSettled : Stored → Type 0
IsSettled h = h ≡ stored_as h.version h.bytes

-- a frame is valid in the version that is known; where none is known, no frame is
abbrev pub IsValidIn : Option Version → Frame → Type 0
IsValidIn None = λ f. ⊥
IsValidIn (Some v) = IsValid v

-- the bytes of a frame in the version that is known; none where none is known
abbrev pub encoding_in : Option Version → Frame → List ℕ
encoding_in None = λ f. []
encoding_in (Some v) = encoding v

-- what is stored, with the bytes of these frames in front
abbrev pub before : List Frame → Stored → Stored
before frames h = record { version = h.version; bytes = flat_map (encoding_in h.version) frames ++ h.bytes }

-- the first so many of the bytes that are held
abbrev pub front : ℕ → Stored → Stored
front n h = record { version = h.version; bytes = take n h.bytes }

-- this frame stands at the front of the bytes; where no version is known, none does
abbrev pub FrameIn : Option Version → Frame → List ℕ → Type 0
FrameIn None f bytes = ⊥
FrameIn (Some v) f bytes = FrameStands v f bytes

-- this fault stands at the front of the bytes; where no version is known that is BadTag, of a byte that breaks a greeting
abbrev pub FaultIn : Option Version → FrameFault → List ℕ → Type 0
FaultIn None e bytes = (e ≡ BadTag) × GreetingBreaks bytes
FaultIn (Some v) e bytes = FaultStands v e bytes

-- this frame stands at the front of what is stored
abbrev pub HasFrame : Frame → Stored → Type 0
HasFrame f h = FrameIn h.version f h.bytes

-- this fault stands at the front of what is stored
abbrev pub HasFault : FrameFault → Stored → Type 0
HasFault e h = FaultIn h.version e h.bytes

-- neither a frame nor a fault stands at the front of what is stored
pub record IsUndecided (h : Stored) : Type 0 where
  pub no_frame : (f : Frame) → ¬ HasFrame f h
  pub no_fault : (e : FrameFault) → ¬ HasFault e h

-- a frame or a fault stands at the front of what is stored
abbrev pub IsDecided : Stored → Type 0
IsDecided h = ((f : Frame) × HasFrame f h) ⊎ ((e : FrameFault) × HasFault e h)
