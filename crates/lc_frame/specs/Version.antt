-- The versions of the format, and how a stream says which of them it is of. They are this project's own.
use Rattle.std.specs.Prelude.{◌≡◌, ℕ, ◌<◌, ◌==◌, ◌&&◌, Bool, true, false, if◌then◌else◌, List, [], ◌∷◌, ◌++◌, length, Option, Some, None}
use Rattle.lc_frame.specs.declared.version.Version.{Version}
use Rattle.lc_frame.specs.declared.version.Version.TheVariants.{One, Two}

-- the bytes in front of a stream's frames: none in version One
abbrev pub greeting : Version → List ℕ
greeting One = []
greeting Two = 76 ∷ 67 ∷ 77 ∷ 2 ∷ []

-- whether the first list begins the second
abbrev pub begins : List ℕ → List ℕ → Bool
begins [] bytes = true
begins (x ∷ xs) [] = false
begins (x ∷ xs) (y ∷ ys) = x == y && begins xs ys

-- the version that the first bytes of a stream tell, once they do: a first byte other than a greeting's is the tag of a frame of version One
abbrev pub version_of : List ℕ → Option Version
version_of [] = None
version_of (first ∷ rest) = if first == 76 then (if begins (greeting Two) (first ∷ rest) then Some Two else None) else Some One

-- part of a greeting, or nothing
pub record IsGreetingPart (bytes : List ℕ) : Type 0 where
  pub rest : List ℕ
  pub some : 0 < length rest
  pub is : greeting Two ≡ bytes ++ rest

-- a byte differs from a greeting that was begun: the bytes tell no version and are no part of one
pub record GreetingBreaks (bytes : List ℕ) : Type 0 where
  pub no_version : version_of bytes ≡ None
  pub no_part : ¬ IsGreetingPart bytes
