-- What lies at the front of memory that was filled.
use Rattle.std.proofs.Common.{◌≡◌, ℕ, ◌+◌, ◌≤◌, List, ◌++◌, length, take, ap, ◌∙◌, arith}
use Rattle.std.proofs.lemmas.List.{take-take, take-append-le, length-append}
use Rattle.std.proofs.Math.Seq.{take-append-add}

-- behind what was held lie the bytes that were given, and then what else is in memory
pub filled_front : (len count all : ℕ) (held memory tail : List ℕ) → len ≡ length held → count ≤ length memory → len + count ≤ all → take (len + count) (take all (held ++ memory ++ tail)) ≡ held ++ take count memory
filled_front len count all held memory tail same within less =
    take-take (len + count) all (held ++ memory ++ tail) less
    ∙ take-append-le (len + count) (held ++ memory) tail (omega (arith, same, within, length-append held memory))
    ∙ ap (λ (n : ℕ). take (n + count) (held ++ memory)) same
    ∙ take-append-add held memory count
