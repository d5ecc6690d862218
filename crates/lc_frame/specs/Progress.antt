-- What a stream decoder remembers of the bytes that it holds, for src/progress.rt. A device of the proofs: what a decoder takes and shows is said without it.
use Rattle.std.specs.Prelude.{◌≡◌, ℕ, ◌<◌, ◌≤◌, ◌++◌, List, [], ◌∷◌, length, take, Option, Some, None}
use Rattle.lc_frame.specs.declared.version.Version.{Version}
use Rattle.lc_frame.specs.declared.version.Version.TheVariants.{One, Two}
use Rattle.lc_frame.specs.declared.head.Head.{Head}
use Rattle.lc_frame.specs.declared.progress.Progress.{Progress}
use Rattle.lc_frame.specs.declared.progress.Progress.TheVariants.{Wants, Whole, Fault, Greeted, Broken}
use Rattle.lc_frame.specs.declared.greeting.Opening.{Opening}
use Rattle.lc_frame.specs.declared.greeting.Opening.TheVariants as openings
use Rattle.lc_frame.specs.Version.{greeting, version_of, IsGreetingPart, GreetingBreaks}
use Rattle.lc_frame.specs.Kind.{header_len, IsInRange}
use Rattle.lc_frame.specs.Encoding.{encoding}
use Rattle.lc_frame.specs.Decoded.{IsOpen, IsKnown, OnlyFrame, OnlyFault}
use Rattle.lc_frame.specs.Scan.{frame_in, NeedsMore}
use Rattle.lc_frame.specs.Stored.{Stored, fed, IsUndecided, IsDecided}

-- the bytes are those of the frame with this head
pub record HoldsFrame (v : Version) (head : Head) (bytes : List ℕ) : Type 0 where
  pub only : OnlyFrame v (frame_in v head bytes) bytes
  pub fills : bytes ≡ encoding v (frame_in v head bytes)
  pub in_range : IsInRange v head.kind head.number
  pub begins : header_len v head.kind ≤ length bytes

-- what is remembered is true of the bytes of frames
abbrev pub Holds : Version → Progress → List ℕ → Type 0
Holds v (Wants need) bytes = NeedsMore v bytes need
Holds v (Whole head) bytes = HoldsFrame v head bytes
Holds v (Fault fault) bytes = OnlyFault v fault bytes
Holds v Greeted bytes = ⊥
Holds v Broken bytes = ⊥

-- the same from the start of a stream on
abbrev pub Remembers : Version → Progress → List ℕ → Type 0
Remembers v Greeted bytes = IsGreetingPart bytes
Remembers v Broken bytes = GreetingBreaks bytes
Remembers v progress bytes = Holds v progress bytes

-- the version, where what is remembered says that it is known
abbrev pub known_version : Version → Progress → Option Version
known_version v Greeted = None
known_version v Broken = None
known_version v progress = Some v

-- the buffer took so many bytes from the front of a piece: as few as it takes that a frame or a fault stands, and all where none comes to stand
pub record Takes (v : Version) (old new piece : List ℕ) (taken : ℕ) (progress : Progress) : Type 0 where
  pub count : taken ≤ length piece
  pub held : new ≡ old ++ take taken piece
  pub shortest : (k : ℕ) → k < taken → IsOpen v (old ++ take k piece)
  pub stop : taken < length piece → IsKnown v new
  pub knows : Holds v progress new

-- the same up to the next place where more is known
pub record Advances (v : Version) (old new piece : List ℕ) (taken : ℕ) (progress : Progress) : Type 0 where
  pub count : taken ≤ length piece
  pub held : new ≡ old ++ take taken piece
  pub shortest : (k : ℕ) → k < taken → IsOpen v (old ++ take k piece)
  pub further : 0 < length piece → 0 < taken
  pub knows : Holds v progress new

-- the next byte of a greeting behind a part of it
pub record IsDue (byte : ℕ) (part : List ℕ) : Type 0 where
  pub rest : List ℕ
  pub is : greeting Two ≡ part ++ byte ∷ rest

-- so many bytes were taken, before the last of which there was part of a greeting
pub record TakesPart (taken : ℕ) (old new piece : List ℕ) : Type 0 where
  pub count : taken ≤ length piece
  pub held : new ≡ old ++ take taken piece
  pub shortest : (k : ℕ) → k < taken → IsGreetingPart (old ++ take k piece)

-- what bytes at the start of a stream made of a greeting that is part there: the version is One; all of the piece is part of it; as few bytes as it takes were taken until it is whole, or until one breaks it
abbrev pub OpensAs : Opening → List ℕ → List ℕ → List ℕ → Type 0
OpensAs openings.One old new piece = (old ≡ []) × (new ≡ []) × (version_of piece ≡ Some One)
OpensAs openings.Part old new piece = (new ≡ old ++ piece) × IsGreetingPart new
OpensAs (openings.Whole taken) old new piece = (new ≡ greeting Two) × TakesPart taken old new piece
OpensAs (openings.Broken taken) old new piece = GreetingBreaks new × TakesPart taken old new piece

-- what is held took so many bytes from the front of a piece: as few as it takes that a frame or a fault stands, and all where none comes to stand
pub record Feeds (old new : Stored) (piece : List ℕ) (taken : ℕ) : Type 0 where
  pub count : taken ≤ length piece
  pub held : new ≡ fed old (take taken piece)
  pub shortest : (k : ℕ) → k < taken → IsUndecided (fed old (take k piece))
  pub stop : taken < length piece → IsDecided new

-- the same of what is remembered behind a part of a greeting
pub record Opens (old new piece : List ℕ) (version : Version) (taken : ℕ) (progress : Progress) : Type 0 where
  pub feeds : Feeds (record { version = None; bytes = old }) (record { version = known_version version progress; bytes = new }) piece taken
  pub knows : Remembers version progress new
