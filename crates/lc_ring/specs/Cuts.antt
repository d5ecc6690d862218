-- Messages as their bytes in a row and their lengths, for src/ring.rt. A device of the proofs: what a ring is and does is said without it.
use Rattle.std.specs.Prelude.{◌≡◌, ℕ, ◌<◌, ◌≤◌, ◌⊎◌, List, [], ◌∷◌, length, take, drop}
use Rattle.lc_frame.specs.Bounds.{IsCapacity}
use Rattle.lc_frame.specs.declared.version.Version.TheVariants.{Two}
use Rattle.lc_frame.specs.Kind.{max_body}
use Rattle.lc_ring.specs.Laps.{Laps, waiting}
use Rattle.lc_ring.specs.Lengths.{Lengths}

-- the bytes, cut by the lengths
abbrev pub cut : List ℕ → List ℕ → List (List ℕ)
cut [] bytes = []
cut (n ∷ ns) bytes = take n bytes ∷ cut ns (drop n bytes)

-- the lengths cut bytes in laps into messages, each of them in one lap
abbrev pub IsCut : List ℕ → List ℕ → List ℕ → Type 0
IsCut [] near far = (near ≡ []) × (far ≡ [])
IsCut (n ∷ ns) near far = (1 ≤ n) × (n ≤ max_body Two) × (((n < length near) × IsCut ns (drop n near) far) ⊎ ((n ≡ length near) × IsCut ns far []))

-- lengths and bytes make one receiving ring: both have its capacity, and the lengths cut the bytes; the cut of a slice lies within a turn
pub record AreOneRing (lengths : Lengths) (bytes : Laps) (until_cut : ℕ) : Type 0 where
  pub is_cut : IsCut lengths.items bytes.near bytes.far
  pub fits : length (waiting bytes) ≤ bytes.turn
  pub same : lengths.capacity ≡ bytes.turn
  pub longest : bytes.longest ≡ max_body Two
  pub ahead : (1 ≤ until_cut) × (until_cut ≤ bytes.turn)
  pub capacity : IsCapacity bytes.turn
