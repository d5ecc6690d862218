-- Histories by their cuts: each entry may follow those before it, and what begins a history is one.
use Rattle.std.proofs.Common.{◌≡◌, List, [], ◌∷◌, ◌++◌, Option, Some, refl, sym, ap, subst, ◌∙◌, append_assoc, append-nil}
use Rattle.std.specs.List.{filter_map, cons_option}
use Rattle.std.proofs.lemmas.List.Elements.{filter_map-append}
use Rattle.lc_history.specs.History.{IsHistoryAfter, IsHistory}

-- where each entry may follow those before it, all of them are a history
after_cuts : {E : Type 0} (MayFollow : List E → E → Type 0) (before history : List E) → ((between : List E) (e : E) (later : List E) → history ≡ between ++ e ∷ later → MayFollow (before ++ between) e) → IsHistoryAfter MayFollow before history
after_cuts MayFollow before [] each = tt
after_cuts {E} MayFollow before (x ∷ history) each = (
  subst (λ (xs : List E). MayFollow xs x) (append-nil before) (each [] x history refl),
  after_cuts MayFollow (before ++ x ∷ []) history
      (λ between e later is. subst (λ (xs : List E). MayFollow xs e) (sym (append_assoc before (x ∷ []) between)) (each (x ∷ between) e later (ap (λ (ys : List E). x ∷ ys) is))),
)

pub history_by_cuts : {E : Type 0} (MayFollow : List E → E → Type 0) (history : List E) → ((before : List E) (e : E) (later : List E) → history ≡ before ++ e ∷ later → MayFollow before e) → IsHistory MayFollow history
history_by_cuts MayFollow history each = after_cuts MayFollow [] history each

-- what begins a history is a history
pub begins_after : {E : Type 0} (MayFollow : List E → E → Type 0) (before history later : List E) → IsHistoryAfter MayFollow before (history ++ later) → IsHistoryAfter MayFollow before history
begins_after MayFollow before [] later h = tt
begins_after MayFollow before (x ∷ history) later h = (h.0, begins_after MayFollow (before ++ x ∷ []) history later h.1)

-- a cut of a list is a cut of what its items carry
pub cut_of : {E X : Type 0} (of : E → Option X) (history before : List E) (e : E) (later : List E) (x : X) → history ≡ before ++ e ∷ later → of e ≡ Some x → filter_map of history ≡ filter_map of before ++ x ∷ filter_map of later
cut_of of history before e later x is carries =
    ap (filter_map of) is ∙ (filter_map-append of before (e ∷ later) ∙ ap (λ o. filter_map of before ++ cons_option o (filter_map of later)) carries)
