-- What a writing pump has popped and not written. That several frames go out in one write is this project's own.
use Rattle.std.specs.Prelude.{◌≡◌, ◌⊎◌, ℕ, ◌+◌, ◌-◌, ◌*◌, ◌<◌, ◌≤◌, List, [], ◌∷◌, ◌++◌, length, take, drop}
use Rattle.std.specs.List.{flat_map, AllByRecursion}
use Rattle.lc_frame.specs.declared.version.Version.{Version}
use Rattle.lc_frame.specs.declared.frame.Frame.{Frame}
use Rattle.lc_frame.specs.Version.{greeting}
use Rattle.lc_frame.specs.Frame.{IsValid}
use Rattle.lc_frame.specs.Encoding.{encoding}
use Rattle.lc_frame.specs.Kind.{max_frame}
use Rattle.lc_frame.specs.StreamEncoder.{EncoderState}
use Rattle.lc_frame.specs.Stored.{stored_in}
use Rattle.lc_frame.specs.Splits.{frames_of}

-- the version of the stream, the bytes that are left of the frame that was begun, or of the greeting, the frames of which no byte was written, and how many more bytes have room behind them
pub record BatchState : Type 0 where
  pub version : Version
  pub begun : List ℕ
  pub waiting : List Frame
  pub free : ℕ

-- a batch has room for two of the longest frames
abbrev pub max_batch : Version → ℕ
max_batch version = 2 * max_frame version

-- at the start of a stream its greeting is pending
abbrev pub new_batch : Version → BatchState
new_batch version = record { version = version; begun = greeting version; waiting = []; free = max_batch version - length (greeting version) }

-- of these bytes the first so many are left of what was begun, and the others are those of whole frames
abbrev pub waiting_in : Version → ℕ → List ℕ → List Frame
waiting_in version begun bytes = frames_of (stored_in version (drop begun bytes))

-- the batch that a buffer with these bytes is
abbrev pub batch_of : Version → ℕ → List ℕ → ℕ → BatchState
batch_of version begun bytes free = record { version = version; begun = take begun bytes; waiting = waiting_in version begun bytes; free = free }

-- behind what is left of what was begun, the bytes are those of whole, valid frames
pub record AreWhole (version : Version) (begun : ℕ) (bytes : List ℕ) : Type 0 where
  pub within : begun ≤ length bytes
  pub whole : drop begun bytes ≡ flat_map (encoding version) (waiting_in version begun bytes)
  pub valid : AllByRecursion (IsValid version) (waiting_in version begun bytes)

-- what every batch keeps: two of the longest frames have room, and behind what is left of what was begun stand whole frames
pub record IsBatch (version : Version) (encoder : EncoderState) (begun : ℕ) : Type 0 where
  pub room : encoder.capacity ≡ max_batch version
  pub whole : AreWhole version begun encoder.pending

-- where the frame ends that was begun last, once so many of these bytes were written: so many frames more were begun, each with its first byte
pub record EndsAt (version : Version) (begun : ℕ) (bytes : List ℕ) (written end gone : ℕ) : Type 0 where
  pub some : gone ≤ length (waiting_in version begun bytes)
  pub written_to : written ≤ end
  pub end_is : end ≡ begun + length (flat_map (encoding version) (take gone (waiting_in version begun bytes)))
  pub first : (k : ℕ) → k < gone → begun + length (flat_map (encoding version) (take k (waiting_in version begun bytes))) < written

-- these bytes are what is left of the last of these frames, of which a byte at least was written
pub record HasBegun (version : Version) (frames : List Frame) (rest : List ℕ) : Type 0 where
  pub earlier : List Frame
  pub frame : Frame
  pub last : frames ≡ earlier ++ frame ∷ []
  pub written : List ℕ
  pub some : 0 < length written
  pub whole : encoding version frame ≡ written ++ rest

-- the first so many of the pending bytes were written: some frames wait no longer, and what is left of the last of them is pending, or else of what was begun before
pub record LetsGo (count : ℕ) (old new : BatchState) : Type 0 where
  pub version : new.version ≡ old.version
  pub gone : List Frame
  pub written : List ℕ
  pub count_is : count ≡ length written
  pub waiting : old.waiting ≡ gone ++ new.waiting
  pub text_is : old.begun ++ flat_map (encoding old.version) gone ≡ written ++ new.begun
  pub rest : (gone ≡ []) ⊎ HasBegun old.version gone new.begun
