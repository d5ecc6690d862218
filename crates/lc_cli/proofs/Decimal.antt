-- What `decimal` writes begins with a digit, and with 0 only where that is all; and what `parse` reads of such digits is what `decimal` writes.
use Rattle.std.proofs.Common.{◌≡◌, ℕ, zero, suc, ◌<◌, ◌≤◌, ◌^◌, ◌⊎◌, inl, inr, List, length, get_or, Result, Ok, Err, Option, IfOk, IfSome, arith, sym, ◌∙◌, ap, subst}
use Rattle.std.specs.Fmt.{decimal}
use Rattle.std.specs.Result.{result_ok}
use Rattle.std.specs.Str.Parse.{ParsesUnsigned}
use Rattle.std.proofs.lemmas.Fmt.{decimal_is_IsNumeral, decimal_digit, first_decimal, decimal-digits_value}
use Rattle.std.proofs.lemmas.Str.Parse.{tells_digits, numerals_by_value, parse_plain, digit_at}

-- a plus, or a zero before more digits, comes first
abbrev pub HasPrefix : List ℕ → Type 0
HasPrefix bs = (get_or bs 0 0 ≡ 43) ⊎ ((get_or bs 0 0 ≡ 48) × (1 < length bs))

decimal-first : (n : ℕ) → n < 2 ^ 64 → 48 ≤ get_or (decimal n) 0 0
decimal-first n small =
    let numeral = (decimal_is_IsNumeral n small).0 in
    (digit_at (decimal n) 0 numeral.1 numeral.0).0

decimal-zero : (n : ℕ) → n < 2 ^ 64 → get_or (decimal n) 0 0 ≡ 48 → length (decimal n) ≡ 1
decimal-zero zero small e = ap length (decimal_digit 0 (omega arith))
decimal-zero (suc n) small e = absurd (omega (arith, first_decimal (suc n) (omega arith) small, e))

no_prefix : (n : ℕ) → n < 2 ^ 64 → ¬ (HasPrefix (decimal n))
no_prefix n small (inl plus) = omega (arith, decimal-first n small, plus)
no_prefix n small (inr (zeroes, long)) = omega (arith, decimal-zero n small zeroes, long)

pub decimal-no_prefix : (n : ℕ) (bs : List ℕ) → n < 2 ^ 64 → decimal n ≡ bs → ¬ (HasPrefix bs)
decimal-no_prefix n bs small e h = no_prefix n small (subst HasPrefix (sym e) h)

parsed : {E : Type 0} (bs : List ℕ) (r : Result ℕ E) → ParsesUnsigned 64 10 bs r → ¬ (HasPrefix bs) → IfOk r (λ n. decimal n ≡ bs)
parsed bs (Err e) h plain = tt
parsed {E} bs (Ok n) h plain =
    let own = numerals_by_value _ tells_digits in
    let (numeral, value) = parse_plain own {E = E} 64 bs (Ok n) h (λ plus. plain (inl plus)) in
    let short : get_or bs 0 0 ≡ 48 → length bs ≡ 1 = λ zeroes.
    let few : ¬ (1 < length bs) = λ long. plain (inr (zeroes, long)) in
    omega (arith, few, numeral.1) in
    ap decimal value ∙ decimal-digits_value own bs numeral.0 numeral.1 short numeral.2

some : {E : Type 0} (P : ℕ → Type 0) (r : Result ℕ E) → IfOk r P → IfSome (result_ok r) P
some P (Ok n) h = h
some P (Err e) h = tt

pub parsed-decimal : {E : Type 0} (bs : List ℕ) (r : Result ℕ E) (o : Option ℕ) → o ≡ result_ok r → ParsesUnsigned 64 10 bs r → ¬ (HasPrefix bs) → IfSome o (λ n. decimal n ≡ bs)
parsed-decimal bs r o e h plain =
    let P : Option ℕ → Type 0 = λ o. IfSome o (λ n. decimal n ≡ bs) in
    subst P (sym e) (some (λ n. decimal n ≡ bs) r (parsed bs r h plain))
