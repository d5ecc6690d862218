-- Numbers whose last digits are put first.
use Rattle.std.proofs.Common.{◌≡◌, ℕ, ◌+◌, ◌-◌, ◌/◌, ◌%◌, ◌<◌, ◌≤◌, ◌^◌, List, [], ◌∷◌, ◌++◌, length, drop, slice_set, sym, ap, ◌∙◌, arith}
use Rattle.std.proofs.lemmas.List.{length-append, length-drop, drop-set, append_assoc}
use Rattle.std.proofs.lemmas.Fmt.{decimal_digit, decimal_step, decimal_nonempty, length-decimal-le}
use Rattle.std.specs.Fmt.{decimal}

-- the digits of what is left have room before those that are put
pub has_room : (number rest first : ℕ) (digits : List ℕ) → number < 2 ^ 64 → rest < 2 ^ 64 → length digits ≡ 20 → first ≤ 20 → decimal rest ++ drop first digits ≡ decimal number → 1 ≤ first
has_room number rest first digits small left len within parts =
    let most : length (decimal number) ≤ 20 = length-decimal-le 20 number (omega arith) (omega (arith, small)) small in
    let some : 0 < length (decimal rest) = decimal_nonempty rest left in
    omega (arith, most, some, len, within, length-append (decimal rest) (drop first digits), ap length parts, length-drop first digits)

put_first : (first d : ℕ) (digits : List ℕ) → 1 ≤ first → first ≤ length digits → drop (first - 1) (slice_set digits (first - 1) d) ≡ d ∷ drop first digits
put_first first d digits some within = drop-set digits (first - 1) d (omega (arith, some, within)) ∙ ap (λ (k : ℕ). d ∷ drop k digits) (omega (arith, some))

-- the last digit of what is left is put
pub put_last : (number rest first : ℕ) (digits : List ℕ) → 10 ≤ rest → rest < 2 ^ 64 → 1 ≤ first → first ≤ length digits → decimal rest ++ drop first digits ≡ decimal number → decimal (rest / 10) ++ drop (first - 1) (slice_set digits (first - 1) (48 + rest % 10)) ≡ decimal number
put_last number rest first digits more left some within parts =
    ap (λ (ds : List ℕ). decimal (rest / 10) ++ ds) (put_first first (48 + rest % 10) digits some within)
    ∙ sym (append_assoc (decimal (rest / 10)) ((48 + rest % 10) ∷ []) (drop first digits))
    ∙ ap (λ (ds : List ℕ). ds ++ drop first digits) (sym (decimal_step rest more left))
    ∙ parts

-- the only digit of what is left is put
pub put_only : (number rest first : ℕ) (digits : List ℕ) → rest < 10 → 1 ≤ first → first ≤ length digits → decimal rest ++ drop first digits ≡ decimal number → drop (first - 1) (slice_set digits (first - 1) (48 + rest)) ≡ decimal number
put_only number rest first digits less some within parts =
    put_first first (48 + rest) digits some within
    ∙ ap (λ (ds : List ℕ). ds ++ drop first digits) (sym (decimal_digit rest less))
    ∙ parts
