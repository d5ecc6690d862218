-- Lemmas on histories: one entry more, what a side knows, and what its own entries come to.
use Rattle.std.proofs.Common.{◌≡◌, Bool, true, false, cond, List, [], ◌∷◌, ◌++◌, Option, None, sym, refl, ap, ◌∙◌, subst, append_assoc, append-nil}
use Rattle.std.specs.Prelude.{filter}
use Rattle.std.specs.List.{filter_map, cons_option}
use Rattle.std.proofs.lemmas.List.Elements.{filter-append, filter_map-append}
use Rattle.lc_history.specs.History.{IsHistoryAfter, IsHistory, Knows, Learns, Makes}

-- what a side knows stays so when the other goes on, and is all where the side has seen all
pub knows_more : {E : Type 0} (own : E → Bool) (seen history later : List E) → filter own later ≡ [] → Knows own seen history → Knows own seen (history ++ later)
knows_more {E} own seen history later others h =
    record {
      later = h.later ++ later;
      begins = ap (λ (xs : List E). xs ++ later) h.begins ∙ append_assoc seen h.later later;
      others = filter-append own h.later later ∙ (ap (λ (xs : List E). xs ++ filter own later) h.others ∙ others);
    }

pub knows_all : {E : Type 0} (own : E → Bool) (history : List E) → Knows own history history
knows_all own history = record { later = []; begins = sym (append-nil history); others = refl }

-- a history with one entry more
follows_after : {E : Type 0} (MayFollow : List E → E → Type 0) (before history : List E) (e : E) → MayFollow (before ++ history) e → IsHistoryAfter MayFollow before history → IsHistoryAfter MayFollow before (history ++ e ∷ [])
follows_after {E} MayFollow before [] e may legal = (subst (λ (xs : List E). MayFollow xs e) (append-nil before) may, tt)
follows_after {E} MayFollow before (x ∷ history) e may legal =
    (legal.0, follows_after MayFollow (before ++ x ∷ []) history e (subst (λ (xs : List E). MayFollow xs e) (sym (append_assoc before (x ∷ []) history)) may) legal.1)

pub history-push : {E : Type 0} (MayFollow : List E → E → Type 0) (history : List E) (e : E) → MayFollow history e → IsHistory MayFollow history → IsHistory MayFollow (history ++ e ∷ [])
history-push MayFollow history e may legal = follows_after MayFollow [] history e may legal

-- each entry of a history may follow those before it
follows_from : {E : Type 0} (MayFollow : List E → E → Type 0) (start history before : List E) (e : E) (later : List E) → IsHistoryAfter MayFollow start history → history ≡ before ++ e ∷ later → MayFollow (start ++ before) e
follows_from {E} MayFollow start [] [] e later legal is = absurd (cc)
follows_from {E} MayFollow start [] (x ∷ before) e later legal is = absurd (cc)
follows_from {E} MayFollow start (y ∷ history) [] e later legal is =
    let same : y ≡ e = cc in
    subst (λ (xs : List E). MayFollow xs e) (sym (append-nil start)) (subst (MayFollow start) same legal.0)
follows_from {E} MayFollow start (y ∷ history) (x ∷ before) e later legal is =
    let same : y ≡ x = cc in
    let rest : history ≡ before ++ e ∷ later = cc in
    let whole : (start ++ y ∷ []) ++ before ≡ start ++ x ∷ before = append_assoc start (y ∷ []) before ∙ ap (λ (z : E). start ++ z ∷ before) same in
    subst (λ (xs : List E). MayFollow xs e) whole (follows_from MayFollow (start ++ y ∷ []) history before e later legal.1 rest)

pub follows_each : {E : Type 0} (MayFollow : List E → E → Type 0) (history before : List E) (e : E) (later : List E) → IsHistory MayFollow history → history ≡ before ++ e ∷ later → MayFollow before e
follows_each MayFollow history before e later legal is = follows_from MayFollow [] history before e later legal is

-- what the entries of one kind carry, where none of the kind is the other side's: of a side's own entries no more come but those that it makes
module _ {E X : Type 0} (own : E → Bool) (of : E → Option X) (mine : (e : E) → own e ≡ false → of e ≡ None) where
  other_entry : (e : E) (later : List E) (b : Bool) → own e ≡ b → cond b (e ∷ filter own later) (filter own later) ≡ [] → (own e ≡ false) × (filter own later ≡ [])
  other_entry e later true is none = absurd (cc)
  other_entry e later false is none = (is, none)

  none_other : (later : List E) → filter own later ≡ [] → filter_map of later ≡ []
  none_other [] none = refl
  none_other (e ∷ later) none =
      let apart = other_entry e later (own e) refl none in
      ap (λ (o : Option X). cons_option o (filter_map of later)) (mine e apart.0) ∙ none_other later apart.1

  pub known_same : (seen history : List E) → Knows own seen history → filter_map of history ≡ filter_map of seen
  known_same seen history h =
      ap (filter_map of) h.begins ∙ (filter_map-append of seen h.later ∙ (ap (λ (xs : List X). filter_map of seen ++ xs) (none_other h.later h.others) ∙ append-nil (filter_map of seen)))

  pub learned_same : (MayFollow : List E → E → Type 0) (old new : List E) → Learns MayFollow own old new → filter_map of new ≡ filter_map of old
  learned_same MayFollow old new h = known_same old new h.knows

  pub made_one : (MayFollow : List E → E → Type 0) (old : List E) (e : E) (new : List E) → Makes MayFollow own old e new → filter_map of new ≡ filter_map of old ++ filter_map of (e ∷ [])
  made_one MayFollow old e new h =
      ap (filter_map of) h.last ∙ (filter_map-append of h.before (e ∷ []) ∙ ap (λ (xs : List X). xs ++ filter_map of (e ∷ [])) (known_same old h.before h.knows))
