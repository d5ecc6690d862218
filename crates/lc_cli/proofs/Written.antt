-- Bytes that are written piece by piece as hexadecimal text.
use Rattle.std.proofs.Common.{◌≡◌, ℕ, List, [], ◌∷◌, ◌++◌, ◌/◌, ◌%◌, slice_index, take, drop, Option, refl, ap, subst, sym, take-append-drop, append_assoc}
use Rattle.std.specs.Io.KnownBytes.{Appends}
use Rattle.std.proofs.KnownBytes.{Appends-trans}
use Rattle.hex.specs.Hex.{encode_with, encode_lower, lower_digits}

pub encode_with-append : (t xs ys : List ℕ) → encode_with t (xs ++ ys) ≡ encode_with t xs ++ encode_with t ys
unfolding encode_with
encode_with-append t [] ys = refl
encode_with-append t (x ∷ xs) ys = ap (λ l. slice_index t (x / 16) ∷ slice_index t (x % 16) ∷ l) (encode_with-append t xs ys)

-- the text of a front is written, and then that of a piece
pub Appends-encoded : (a b c : Option (List ℕ)) (front piece : List ℕ) → Appends a b (encode_lower front) → Appends b c (encode_lower piece) → Appends a c (encode_lower (front ++ piece))
Appends-encoded a b c front piece p q =
    subst (Appends a c) (sym (encode_with-append lower_digits front piece)) (Appends-trans a b c (encode_lower front) (encode_lower piece) p q)

-- what is left behind a front is cut in two
pub split-parts : (all front rest piece others : List ℕ) (k : ℕ) → all ≡ front ++ rest → piece ≡ take k rest → others ≡ drop k rest → all ≡ front ++ piece ++ others
split-parts all front rest piece others k whole first second =
    let parts = take-append-drop k rest in
    let moved = append_assoc front piece others in
    cc
