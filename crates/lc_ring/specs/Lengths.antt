-- The lengths of waiting messages as bytes in laps, for src/lengths.rt. A device of the proofs: what a ring is and does is said without it.
use Rattle.std.specs.Prelude.{◌≡◌, ℕ, zero, suc, nat_lt, if◌then◌else◌, List, [], ◌∷◌, ◌++◌}
use Rattle.std.specs.Int.{w32, to_be_bytes, from_be_bytes}
use Rattle.std.specs.List.{AllByRecursion}
use Rattle.lc_frame.specs.Bounds.{IsCapacity}
use Rattle.lc_ring.specs.Laps.{Laps}
use Rattle.lc_ring.specs.Ring.{IsLength}

-- lengths in order, the first first, and the most that their sum may be
pub record Lengths : Type 0 where
  pub items : List ℕ
  pub capacity : ℕ

-- the bytes of one length: below 256 itself, from there on four bytes, the highest first; that of a message's length is 0
abbrev pub encoding : ℕ → List ℕ
encoding len = if nat_lt len 256 then len ∷ [] else to_be_bytes w32 len

-- the bytes of lengths in order
abbrev pub encodings : List ℕ → List ℕ
encodings [] = []
encodings (len ∷ lens) = encoding len ++ encodings lens

-- the lengths that bytes hold, read from the front
abbrev pub decoded : List ℕ → List ℕ
decoded [] = []
decoded (suc len ∷ rest) = suc len ∷ decoded rest
decoded (zero ∷ a ∷ b ∷ c ∷ rest) = from_be_bytes w32 (zero ∷ a ∷ b ∷ c ∷ []) ∷ decoded rest
decoded (zero ∷ _) = []

-- bytes that are whole encodings of lengths that messages have
pub record AreEncodings (bytes : List ℕ) : Type 0 where
  pub whole : bytes ≡ encodings (decoded bytes)
  pub each : AllByRecursion IsLength (decoded bytes)

-- the lengths in the lap at the front, and then those in the next
abbrev pub lengths_in : Laps → Lengths
lengths_in l = record { items = decoded l.near ++ decoded l.far; capacity = l.turn }

-- each lap holds whole encodings, and the next lap begins only once there is one at the front
pub record AreLengths (l : Laps) : Type 0 where
  pub all : l.near ≡ [] → l.far ≡ []
  pub near : AreEncodings l.near
  pub far : AreEncodings l.far
  pub longest : l.longest ≡ 4
  pub capacity : IsCapacity l.turn
