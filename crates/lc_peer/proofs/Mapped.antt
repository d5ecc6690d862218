-- Arrays that are made by `try_map` and `map`.
use Rattle.std.proofs.Common.{◌≡◌, inl, inr, ℕ, zero, suc, ◌+◌, ◌<◌, ◌≤◌, List, length, map, get_or, refl, sym, ap, subst, ◌∙◌, arith}
use denote.Param.Members.{Called, Mut}
use Rattle.std.specs.Array.{AllZipBelow, IsMapOf, MapsFrom}
use Rattle.std.proofs.Math.Nat.{eq-or-lt_of_le}
use Rattle.std.proofs.lemmas.List.{same_lists, get_or-map, length-map}

-- what `try_map` makes by a closure whose answer is f of its argument
pub tried : {A B : Type 0} (f : A → B) (none : A) {R : A → B → Type 0} → ((x : A) (y : B) → R x y → y ≡ f x) → {xs : List A} {ys : List B} {n : ℕ} → length xs ≡ n → AllZipBelow R xs ys n → ys ≡ map f xs
tried f none same {xs} {ys} long made =
    same_lists ys (map f xs) (made.long ∙ sym long ∙ sym (length-map xs f)) (λ k d few.
    same _ _ (made.at k none d (omega (arith, few, made.long))) ∙ sym (get_or-map f xs k none d (omega (arith, few, made.long, long))))

-- what `map` makes by a closure that a call leaves as it was, and whose answer is h of its argument
module _ {F A B : Type 0} (h : A → B) (g : Mut F (A × Unit {0}) B) (f : F) (same : (x : A) (y : B) (q : F) → Called g f (x, tt) y q → (q ≡ f) × (y ≡ h x)) where
  mapped_at : (p : F) (xs : List A) (ys : List B) (i n : ℕ) → p ≡ f → MapsFrom g p xs ys i n → (k : ℕ) → i ≤ k → k < i + n → (e : B) → (x : A) × (get_or xs k x ≡ x) × (get_or ys k e ≡ h x)
  mapped_at p xs ys i zero is made k low high e = absurd (omega (arith, low, high))
  mapped_at p xs ys i (suc n) is made k low high e =
      let kept = same made.1 made.2 made.0 (subst (λ (p : F). Called g p (made.1, tt) made.2 made.0) is made.5) in
      elim (eq-or-lt_of_le low) [
        | inl now ↦ subst (λ (k : ℕ). (x : A) × (get_or xs k x ≡ x) × (get_or ys k e ≡ h x)) now (made.1, made.3.0, made.4.1 e ∙ kept.1)
        | inr later ↦ mapped_at made.0 xs ys (i + 1) n kept.0 made.6 k (omega (arith, later)) (omega (arith, high)) e
      ]

  pub mapped : {xs : List A} {ys : List B} {n : ℕ} → length xs ≡ n → IsMapOf g f xs ys n → ys ≡ map h xs
  mapped {xs} {ys} {n} long made =
      same_lists ys (map h xs) (made.long ∙ sym long ∙ sym (length-map xs h)) (λ k e few.
      let at = mapped_at f xs ys 0 n refl made.each k (omega arith) (omega (arith, few, made.long)) e in
      at.2 ∙ sym (get_or-map h xs k at.0 e (omega (arith, few, made.long, long)) ∙ ap h at.1))
