-- The messages of a channel that wait.
use Rattle.std.proofs.Common.{◌≡◌, ℕ, ◌+◌, ◌<◌, List, [], ◌∷◌, ◌++◌, length, get_or, take, drop, ap, arith}
use Rattle.std.proofs.lemmas.List.{drop_more, length-drop, take_more}

-- the first message that waits is the next of those taken
pub first_waiting : (ms : List (List ℕ)) (t : ℕ) (body : List ℕ) (rest : List (List ℕ)) → drop t ms ≡ body ∷ rest → take (t + 1) ms ≡ take t ms ++ body ∷ []
first_waiting ms t body rest e =
    let lt : t < length ms = omega (arith, length-drop t ms, ap length e) in
    let more : take (t + 1) ms ≡ take t ms ++ get_or ms t [] ∷ [] = take_more ms t [] lt in
    let here : drop t ms ≡ get_or ms t [] ∷ drop (t + 1) ms = drop_more ms t [] lt in
    let same : get_or ms t [] ≡ body = cc in
    rw (← same) more
