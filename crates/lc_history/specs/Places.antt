-- What is kept place by place, of which a call changes one. These words are this project's own.
use Rattle.std.specs.Prelude.{◌≡◌, ℕ, List, IsSomeAnd, slice_get, slice_set}

-- one place is there and changed, in this way, and no other
abbrev pub ChangesAt : {A : Type 0} → ℕ → (A → A → Type 0) → List A → List A → Type 0
ChangesAt {A} at Changes old new = (a : A) × IsSomeAnd (slice_get old at) (λ was. Changes was a) × (new ≡ slice_set old at a)
