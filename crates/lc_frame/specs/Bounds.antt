-- The bounds of what holds messages and frames: a receiving ring's bytes, and how many frames may wait to go out. They are this project's own.
use Rattle.std.specs.Prelude.{ℕ, Bool, ◌≤◌, ◌^◌, ◌&&◌, nat_le}
use Rattle.lc_frame.specs.Kind.{max_amount}

-- a receiving ring has 1 to 2^24 bytes
pub record IsCapacity (capacity : ℕ) : Type 0 where
  pub at_least : 1 ≤ capacity
  pub at_most : capacity ≤ max_amount

-- whether a receiving ring may have so many bytes
abbrev pub is_capacity : ℕ → Bool
is_capacity capacity = nat_le 1 capacity && nat_le capacity max_amount

-- the most frames that may wait to go out: 65,536
abbrev pub max_slots : ℕ
max_slots = 2 ^ 16

-- 1 to 65,536 frames may wait to go out
pub record IsSlots (slots : ℕ) : Type 0 where
  pub at_least : 1 ≤ slots
  pub at_most : slots ≤ max_slots

-- whether so many frames may wait to go out
abbrev pub is_slots : ℕ → Bool
is_slots slots = nat_le 1 slots && nat_le slots max_slots
