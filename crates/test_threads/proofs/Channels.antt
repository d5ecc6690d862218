-- Ends that stay of their credits.
use Rattle.std.proofs.Common.{◌≡◌, ℕ, suc, ◌<◌, List, [], ◌∷◌, map, length, get_or, refl, ap, ◌∙◌, arith}
use Rattle.lc_credit.specs.Sides.{CreditId, Outgoing}
use Rattle.lc_credit.specs.Channels.{credit_out, SameCredit}

pub same_ends : (old new : List Outgoing) → length new ≡ length old → ((k : ℕ) (d : Outgoing) → k < length old → SameCredit (get_or old k d) (get_or new k d)) → map credit_out new ≡ map credit_out old
same_ends [] [] len same = refl
same_ends [] (y ∷ new) len same = absurd (omega arith)
same_ends (x ∷ old) [] len same = absurd (omega arith)
same_ends (x ∷ old) (y ∷ new) len same =
    let rest : map credit_out new ≡ map credit_out old = same_ends old new (omega arith) (λ k d few. same (suc k) d (omega arith)) in
    let here : y.credit ≡ x.credit = same 0 x (omega arith) in
    ap (λ (c : CreditId). c ∷ map credit_out new) here ∙ ap (λ (cs : List CreditId). x.credit ∷ cs) rest
