-- Bytes in laps, for src/laps.rt. A device of the proofs: what a ring is and does is said without it.
use Rattle.std.specs.Prelude.{◌≡◌, ℕ, ◌+◌, ◌<◌, ◌≤◌, ◌⊎◌, min, List, [], ◌++◌, length, drop}
use Rattle.lc_frame.specs.Bounds.{IsCapacity}

-- the bytes that wait in the lap at the front and in the next, the bytes of a turn, and the most that come in one piece
pub record Laps : Type 0 where
  pub near : List ℕ
  pub far : List ℕ
  pub turn : ℕ
  pub longest : ℕ

-- none wait
abbrev pub new_laps : ℕ → ℕ → Laps
new_laps turn longest = record { near = []; far = []; turn = turn; longest = longest }

-- all that wait
abbrev pub waiting : Laps → List ℕ
waiting l = l.near ++ l.far

-- bytes more, in one lap
abbrev pub IsPushed : Laps → List ℕ → Laps → Type 0
IsPushed old bytes new = ((old.far ≡ []) × (new ≡ record old { near = old.near ++ bytes })) ⊎ ((1 ≤ length old.near) × (new ≡ record old { far = old.far ++ bytes }))

-- the first bytes of the lap are taken, and where these were the last of it, the next lap is at the front
abbrev pub IsTaken : ℕ → Laps → Laps → Type 0
IsTaken len old new = ((len < length old.near) × (new ≡ record old { near = drop len old.near })) ⊎ ((len ≡ length old.near) × (new ≡ record old { near = old.far; far = [] }))

-- how bytes lie in a block: the next lap over what is gone, and only once the lap has reached the turn; behind the turn there is room for the longest piece
pub record AreLaps (items : List ℕ) (gone end next turn longest capacity : ℕ) : Type 0 where
  pub within : gone ≤ end
  pub held : end ≤ length items
  pub idle : (end ≡ 0) ⊎ (gone < end)
  pub below : next ≤ gone
  pub over : (next ≡ 0) ⊎ (turn ≤ end)
  pub fits : end + next ≤ turn + gone
  pub is_turn : IsCapacity turn
  pub room : turn + min turn longest ≤ capacity
