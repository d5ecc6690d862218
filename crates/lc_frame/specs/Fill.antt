-- What comes of it where memory of a decoder is filled: the bytes that were given are held behind those that were. These rules are this project's own.
use Rattle.std.specs.Prelude.{◌≡◌, ℕ, ◌<◌, ◌≤◌, List, ◌++◌, length, take, All, Option, Some, None}
use Rattle.lc_frame.specs.declared.version.Version.{Version}
use Rattle.lc_frame.specs.declared.frame.Frame.{Frame}
use Rattle.lc_frame.specs.declared.fill.Filled.{Filled}
use Rattle.lc_frame.specs.declared.fill.Filled.TheVariants.{Few, Failed, Took}
use Rattle.lc_frame.specs.Kind.{header_len}
use Rattle.lc_frame.specs.Frame.{kind_of, IsValid}
use Rattle.lc_frame.specs.Encoding.{encoding}
use Rattle.lc_frame.specs.Stored.{Stored, fed, IsUndecided}

-- a source is asked for bytes of a frame alone where more than so many are missing
abbrev pub fill_len : ℕ
fill_len = 512

-- the most bytes that a source is asked for at once
abbrev pub most_filled : ℕ
most_filled = 4096

-- the bytes are the front of a frame, with its tag and its number, and more than so many of its bytes are missing
pub record LacksMore (h : Stored) : Type 0 where
  pub version : Version
  pub known : h.version ≡ Some version
  pub frame : Frame
  pub valid : IsValid version frame
  pub missing : List ℕ
  pub is : encoding version frame ≡ h.bytes ++ missing
  pub headed : header_len version (kind_of frame) ≤ length h.bytes
  pub more : fill_len < length missing

-- bytes that are held, after some of so many were put behind them, or none where that failed
abbrev pub Grows : ℕ → Option ℕ → List ℕ → List ℕ → List ℕ → Type 0
Grows asked None memory old new = new ≡ old
Grows asked (Some n) memory old new = (n ≤ asked) × (new ≡ old ++ take n memory)

-- memory for so many bytes was filled from a source
pub record FillsFrom {R : Type 0} (fills : R → Option ℕ → List ℕ → R → Type 0) (asked : ℕ) (answer : Option ℕ) (before after : R) (old new : List ℕ) : Type 0 where
  pub memory : List ℕ
  pub size : length memory ≡ asked
  pub filled : fills before answer memory after
  pub bytes : All (λ b. b < 256) memory
  pub grows : Grows asked answer memory old new

-- memory of a size that a source is asked for at once
pub record IsAsked (memory : List ℕ) : Type 0 where
  pub some : 0 < length memory
  pub most : length memory ≤ most_filled

-- so many bytes were given, and are held: still neither a frame nor a fault stands
pub record TakesFrom {R : Type 0} (fills : R → Option ℕ → List ℕ → R → Type 0) (n : ℕ) (before after : R) (old new : Stored) : Type 0 where
  pub memory : List ℕ
  pub size : IsAsked memory
  pub filled : fills before (Some n) memory after
  pub bytes : All (λ b. b < 256) memory
  pub within : n ≤ length memory
  pub grown : new ≡ fed old (take n memory)
  pub undecided : IsUndecided new

-- the source failed, and what is held is the same
pub record FailsFrom {R : Type 0} (fills : R → Option ℕ → List ℕ → R → Type 0) (before after : R) (old new : Stored) : Type 0 where
  pub memory : List ℕ
  pub size : IsAsked memory
  pub filled : fills before None memory after
  pub same : new ≡ old

-- what came of it, by the answer
abbrev pub FilledAs : {R : Type 0} → (R → Option ℕ → List ℕ → R → Type 0) → Filled → R → R → Stored → Stored → Type 0
FilledAs fills Few before after old new = (new ≡ old) × (after ≡ before)
FilledAs fills Failed before after old new = FailsFrom fills before after old new
FilledAs fills (Took n) before after old new = TakesFrom fills n before after old new
