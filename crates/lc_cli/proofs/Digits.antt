-- Two digits and the byte that they write, told by the digits' values.
use Rattle.std.proofs.Common.{◌≡◌, ℕ, zero, suc, ◌+◌, ◌-◌, ◌*◌, ◌/◌, ◌<◌, ◌≤◌, Bool, true, is_some, ◌&&◌, T, eqb, get_or, Option, None, Some, Ok, Err, MatchOption, refl, arith, ◌⊎◌, inl, inr, eq-zero-or-pos, eqb→eq}
use lib.Ieee.Fits.{and_l, and_r}
use Rattle.hex.specs.Hex.{digit_or_error, hex_digit_value, is_hex_digit, pair_value, ◌>>=◌}
use Rattle.hex.specs.declared.error.FromHexError.{FromHexError}
use Rattle.hex.specs.declared.error.FromHexError.TheVariants.{InvalidHexCharacter}
use Rattle.lc_cli.specs.declared.decoding.TheConstants.{VALUES}

-- x is the value of a digit, or 255 where there is none
abbrev pub IsValue : Option ℕ → ℕ → Type 0
IsValue o x = MatchOption o (x ≡ 255) (λ v. (x ≡ v) × (v < 16))

two : (a b i x y : ℕ) (o p : Option ℕ) → IsValue o x → IsValue p y → x < 16 → y < 16
    → (digit_or_error a i o >>= (λ h. digit_or_error b (i + 1) p >>= (λ l. Ok (h * 16 + l)))) ≡ Ok (x * 16 + y)
two a b i x y None p g h small low = absurd (omega (arith, g, small))
two a b i x y (Some v) None g h small low = absurd (omega (arith, h, low))
two a b i x y (Some v) (Some w) (e, g) (f, h) small low = rw (e, f) refl

bad : (a b i x y : ℕ) (o p : Option ℕ) → IsValue o x → IsValue p y → (16 ≤ x) ⊎ (16 ≤ y)
    → (e : FromHexError) × ((digit_or_error a i o >>= (λ h. digit_or_error b (i + 1) p >>= (λ l. Ok (h * 16 + l)))) ≡ Err e)
bad a b i x y None p g h large = (InvalidHexCharacter a i, refl)
bad a b i x y (Some v) None g h large = (InvalidHexCharacter b (i + 1), refl)
bad a b i x y (Some v) (Some w) (e, g) (f, h) (inl large) = absurd (omega (arith, e, g, large))
bad a b i x y (Some v) (Some w) (e, g) (f, h) (inr large) = absurd (omega (arith, f, h, large))

some : (o : Option ℕ) (x : ℕ) → IsValue o x → x < 16 → is_some o ≡ true
some None x e small = absurd (omega (arith, e, small))
some (Some v) x e small = refl

-- a byte is a digit where its value is below 16
pub is_digit : (d x : ℕ) → IsValue (hex_digit_value d) x → x < 16 → is_hex_digit d ≡ true
is_digit d x e small = some (hex_digit_value d) x e small

-- two digits write a byte
pub pair-ok : (a b i x y : ℕ) → IsValue (hex_digit_value a) x → IsValue (hex_digit_value b) y → x < 16 → y < 16 → pair_value a b i ≡ Ok (x * 16 + y)
pair-ok a b i x y g h small low = two a b i x y (hex_digit_value a) (hex_digit_value b) g h small low

-- one of the two is no digit
pub pair-err : (a b i x y : ℕ) → IsValue (hex_digit_value a) x → IsValue (hex_digit_value b) y → (16 ≤ x) ⊎ (16 ≤ y) → (e : FromHexError) × (pair_value a b i ≡ Err e)
pair-err a b i x y g h large = bad a b i x y (hex_digit_value a) (hex_digit_value b) g h large

abbrev is_value : Option ℕ → ℕ → Bool
is_value None x = eqb x 255
is_value (Some v) x = eqb x v && eqb (v / 16) 0

abbrev are_values : ℕ → Bool
are_values zero = true
are_values (suc p) = is_value (hex_digit_value p) (get_or VALUES p 0) && are_values p

told : (o : Option ℕ) (x : ℕ) → T (is_value o x) → IsValue o x
told None x t = eqb→eq _ _ t
told (Some v) x t =
    let small : v / 16 ≡ 0 = eqb→eq _ _ (and_r (eqb x v) _ t) in
    (eqb→eq _ _ (and_l _ _ t), omega (arith, small))

below : (n p : ℕ) → T (are_values n) → p < n → IsValue (hex_digit_value p) (get_or VALUES p 0)
below zero p t h = absurd (omega arith)
below (suc n) p t h =
    elim (eq-zero-or-pos (n - p)) [
      | inl z ↦ let e : p ≡ n = omega arith in rw e (told (hex_digit_value n) (get_or VALUES n 0) (and_l _ (are_values n) t))
      | inr g ↦ below n p (and_r _ (are_values n) t) (omega arith)
    ]

-- the table has the value of each byte
pub VALUES-at : (p : ℕ) → p < 256 → IsValue (hex_digit_value p) (get_or VALUES p 0)
VALUES-at p h = below 256 p tt h
