-- What is left in a word in the end, by what was taken out of it when the sending end was finished.
use Rattle.std.proofs.Common.{◌≡◌, ℕ, ◌+◌, ◌≤◌, Option, Some, None, MatchOption, unwrap_or, refl, sym, subst, arith}

-- what is held and what is waived: together what is left and what was taken, and one of them is nothing
pub record AreParts (taken : Option ℕ) (left : ℕ) (parts : ℕ × ℕ) : Type 0 where
  pub sum : parts.0 + parts.1 ≡ unwrap_or taken 0 + left
  pub apart : MatchOption taken (parts.1 ≡ 0) (λ n. (parts.0 ≡ 0) × (n ≤ parts.1))

pub all_held : (taken : Option ℕ) (left : ℕ) (parts : ℕ × ℕ) → taken ≡ None → parts ≡ (left, 0) → AreParts taken left parts
all_held taken left parts none is = subst (λ (z : Option ℕ × (ℕ × ℕ)). AreParts z.0 left z.1) (λ i. (sym none i, sym is i)) (record { sum = omega arith; apart = refl })

pub all_waived : (taken : Option ℕ) (left n : ℕ) (parts : ℕ × ℕ) → taken ≡ Some n → parts ≡ (0, n + left) → AreParts taken left parts
all_waived taken left n parts some is = subst (λ (z : Option ℕ × (ℕ × ℕ)). AreParts z.0 left z.1) (λ i. (sym some i, sym is i)) (record { sum = omega arith; apart = (refl, (omega arith)) })
