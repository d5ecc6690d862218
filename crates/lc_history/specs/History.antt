-- Histories of things that two sides share, whatever their entries are: what both sides did, each by single steps, in one order, so that it has a meaning what came before; and what each side knows of it. A history is in no memory: it is what the proofs speak of. When an entry may follow those before it, and whose entries are whose, is said by the thing that has the history. These words are this project's own.
use Rattle.std.specs.Prelude.{◌≡◌, ℕ, Bool, false, List, [], ◌∷◌, ◌++◌, filter, Option, None}
use Rattle.std.specs.List.{filter_map}

-- each entry of the second list may follow those before it, the first list among them
abbrev pub IsHistoryAfter : {E : Type 0} → (List E → E → Type 0) → List E → List E → Type 0
IsHistoryAfter MayFollow before [] = Unit {0}
IsHistoryAfter MayFollow before (e ∷ later) = MayFollow before e × IsHistoryAfter MayFollow (before ++ e ∷ []) later

-- each entry may follow those before it
abbrev pub IsHistory : {E : Type 0} → (List E → E → Type 0) → List E → Type 0
IsHistory MayFollow history = IsHistoryAfter MayFollow [] history

-- what a side knows of the history: how it begins, with all entries of the side's own, since what came later is the other's
pub record Knows {E : Type 0} (own : E → Bool) (seen history : List E) : Type 0 where
  pub later : List E
  pub begins : history ≡ seen ++ later
  pub others : filter own later ≡ []

-- a side has seen more of the history, without an entry of its own
pub record Learns {E : Type 0} (MayFollow : List E → E → Type 0) (own : E → Bool) (old new : List E) : Type 0 where
  pub knows : Knows own old new
  pub legal : IsHistory MayFollow new

-- a side has made an entry, after what it had seen and what the other has done since
pub record Makes {E : Type 0} (MayFollow : List E → E → Type 0) (own : E → Bool) (old : List E) (e : E) (new : List E) : Type 0 where
  pub before : List E
  pub knows : Knows own old before
  pub last : new ≡ before ++ e ∷ []
  pub legal : IsHistory MayFollow new

-- what a side knows of a history has all that its own entries carry there, in order, whatever of them is looked at
abbrev pub KnowsItsOwn : {E : Type 0} → List E → List E → Type 0
KnowsItsOwn {E} seen history = (own : E → Bool) (of : E → Option ℕ) → ((e : E) → own e ≡ false → of e ≡ None) → Knows own seen history → filter_map of history ≡ filter_map of seen
