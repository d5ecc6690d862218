-- How much of an input was read, where it is known what it holds. The limit is this project's own.
use Rattle.std.specs.Prelude.{ℕ, ◌+◌, ◌<◌, List, length, Option, None, Some}

-- of all that the input held, more than so many bytes are gone
abbrev pub TakesMore : ℕ → List ℕ → Option (List ℕ) → Type 0
TakesMore limit all None = ⊥
TakesMore limit all (Some rest) = limit + length rest < length all
