-- What a call wrote to the front of the caller's buffer. The numbers are this project's own.
use Rattle.std.specs.Prelude.{◌≡◌, ℕ, ◌+◌, ◌<◌, ◌≤◌, ◌⊎◌, zero, suc, List, ◌++◌, take, drop, length, Option, Some, None, Result, Ok, Err}
use Rattle.lc_frame.specs.declared.version.Version.{Version}
use Rattle.lc_frame.specs.declared.version.Version.TheVariants.{One, Two}
use Rattle.lc_cli.specs.declared.fault.Fault.{Fault}
use Rattle.lc_cli.specs.declared.fault.Fault.TheVariants.{WriteFailed, OutOfMemory}
use Rattle.lc_play.specs.declared.played.LcmuxPlayed.{LcmuxPlayed}

-- the version of a number
abbrev pub version_at : ℕ → Option Version
version_at zero = None
version_at (suc zero) = Some One
version_at (suc (suc zero)) = Some Two
version_at (suc (suc (suc n))) = None

-- a vector takes no more bytes only for want of memory
abbrev pub of_memory : Fault → Fault
of_memory WriteFailed = OutOfMemory
of_memory fault = fault

-- a run is done
abbrev pub IsDone : {V : Type 0} → Result V Fault → Type 0
IsDone (Ok v) = Unit {0}
IsDone (Err fault) = ⊥

-- the text that was shown stands at the front of the buffer
abbrev pub shown_in : LcmuxPlayed → List ℕ → List ℕ
shown_in p buffer = take p.shown buffer

-- both texts stand at the front of the buffer, and the status is this one
pub record Fits (p : LcmuxPlayed) (status : ℕ) (shown told old new : List ℕ) : Type 0 where
  pub room : length shown + length told ≤ length old
  pub is_status : p.status ≡ status
  pub buffer : new ≡ shown ++ told ++ drop (length shown + length told) old

-- the buffer is too short for both texts: it stays as it was, and the status says so
pub record IsShort (p : LcmuxPlayed) (shown told old new : List ℕ) : Type 0 where
  pub no_room : length old < length shown + length told
  pub is_status : p.status ≡ 3
  pub buffer : new ≡ old

-- two texts are handed out, where there is room for them, and their lengths are told
pub record Hands (p : LcmuxPlayed) (status : ℕ) (shown told old new : List ℕ) : Type 0 where
  pub shown_len : p.shown ≡ length shown
  pub told_len : p.told ≡ length told
  pub either : Fits p status shown told old new ⊎ IsShort p shown told old new

-- a buffer that is too short for both texts stays as it was, and the status says so
abbrev pub StaysIfShort : LcmuxPlayed → List ℕ → List ℕ → Type 0
StaysIfShort p old new = length old < p.shown + p.told → (p.status ≡ 3) × (new ≡ old)
