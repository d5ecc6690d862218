-- How the targets that a sending end takes lie among those that were asked. That a server may plead is LCMUX's; that the last plead is the one that is answered is this project's own.
use Rattle.std.specs.Prelude.{◌≡◌, ◌⊎◌, ℕ, List, [], ◌∷◌, None}
use Rattle.std.specs.List.{last_or}
use Rattle.lc_credit.specs.declared.history.Entry.{Entry}
use Rattle.lc_credit.specs.History.{targets_asked, targets_taken, waiting}

-- the first are some of the second, in their order, each once
abbrev pub AreAmong : List ℕ → List ℕ → Type 0
AreAmong [] ys = Unit {0}
AreAmong (x ∷ xs) [] = ⊥
AreAmong (x ∷ xs) (y ∷ ys) = ((x ≡ y) × AreAmong xs ys) ⊎ AreAmong (x ∷ xs) ys

-- the targets taken are some of those asked, in order, each once. What waits is the last that was asked or nothing, and nothing only where none was asked or the last that was taken is the last that was asked
pub record AreTakenInTurn (history : List Entry) : Type 0 where
  pub in_order : AreAmong (targets_taken history) (targets_asked history)
  pub waits : (waiting history ≡ None) ⊎ (waiting history ≡ last_or None (targets_asked history))
  pub none_waits : waiting history ≡ None → last_or None (targets_taken history) ≡ last_or None (targets_asked history)
