-- What is left of a frame, or of a greeting, on its way out. These rules are this project's own.
use Rattle.std.specs.Prelude.{ℕ, List}

-- the bytes that are left
pub record PendingState : Type 0 where
  pub bytes : List ℕ
