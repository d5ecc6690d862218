-- The number of a message, written over the first four bytes of a buffer.
use Rattle.std.proofs.Common.{◌≡◌, ℕ, suc, ◌+◌, ◌≤◌, List, [], ◌∷◌, length, take, drop, set, sym, ap, subst, ◌∙◌, arith}
use Rattle.std.specs.Prelude.{replicate}
use Rattle.std.proofs.lemmas.List.{take-replicate}

pub numbered : (xs : List ℕ) (a b c d len many few v : ℕ) → 4 ≤ length xs → drop 4 xs ≡ replicate many v → len ≡ 4 + few → few ≤ many
    → take len (set (set (set (set xs 0 a) 1 b) 2 c) 3 d) ≡ a ∷ b ∷ c ∷ d ∷ replicate few v
numbered [] a b c d len many few v long rest is fits = absurd (omega (arith, long))
numbered (w ∷ []) a b c d len many few v long rest is fits = absurd (omega (arith, long))
numbered (w ∷ x ∷ []) a b c d len many few v long rest is fits = absurd (omega (arith, long))
numbered (w ∷ x ∷ y ∷ []) a b c d len many few v long rest is fits = absurd (omega (arith, long))
numbered (w ∷ x ∷ y ∷ z ∷ xs) a b c d len many few v long rest is fits =
    let whole : len ≡ suc (suc (suc (suc few))) = omega (arith, is) in
    subst (λ (n : ℕ). take n (a ∷ b ∷ c ∷ d ∷ xs) ≡ a ∷ b ∷ c ∷ d ∷ replicate few v) (sym whole)
    (ap (λ (ys : List ℕ). a ∷ b ∷ c ∷ d ∷ ys) (ap (take few) rest ∙ take-replicate few many v fits))
