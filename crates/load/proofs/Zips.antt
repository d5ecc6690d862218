-- Two lists, place by place.
use Rattle.std.proofs.Common.{◌≡◌, ℕ, suc, ◌<◌, List, [], ◌∷◌, length, arith}
use Rattle.std.specs.Prelude.{slice_index_or}
use Rattle.std.specs.List.{AllZip}

pub zip_from_places : {A : Type 0} (R : A → A → Type 0) (xs ys : List A) → length ys ≡ length xs → ((k : ℕ) (d : A) → k < length xs → R (slice_index_or xs k d) (slice_index_or ys k d)) → AllZip R xs ys
zip_from_places R [] [] e each = tt
zip_from_places R [] (y ∷ ys) e each = absurd (omega (arith, e))
zip_from_places R (x ∷ xs) [] e each = absurd (omega (arith, e))
zip_from_places R (x ∷ xs) (y ∷ ys) e each = (each 0 x (omega arith), zip_from_places R xs ys (omega (arith, e)) (λ k d few. each (suc k) d (omega (arith, few))))
