-- Histories joined, and what every one of them leaves.
use Rattle.std.proofs.Common.{◌≡◌, ℕ, [], ◌∷◌, ◌++◌, refl, ◌∙◌}
use Rattle.lc_world.specs.State.{State, Versions, opening}
use Rattle.lc_world.specs.Answers.{after}
use Rattle.lc_world.specs.Histories.{History, after_all, IsLegal, IsHistory}
use Rattle.lc_world.specs.Guarantee.{state_of}
use Rattle.lc_world.specs.Sound.{IsSound}
use Rattle.lc_world.proofs.Steps.{sound_all, sound_opened, same_capacity}

pub legal_append : (w : State) (history later : History) → IsLegal w history → IsLegal (after_all w history) later → IsLegal w (history ++ later)
legal_append w [] later l m = m
legal_append w (p ∷ history) later l m = (l.0, legal_append (after w p.0 p.1) history later l.1 m)

pub after_append : (w : State) (history later : History) → after_all w (history ++ later) ≡ after_all (after_all w history) later
after_append w [] later = refl
after_append w (p ∷ history) later = after_append (after w p.0 p.1) history later

-- no event changes the capacity
pub capacity_stays : (w : State) (history : History) → (after_all w history).capacity ≡ w.capacity
capacity_stays w [] = refl
capacity_stays w (p ∷ history) = capacity_stays (after w p.0 p.1) history ∙ same_capacity w p.0.side p.0.act p.1

pub sound_of : (capacity : ℕ) (versions : Versions) (history : History) → IsHistory capacity versions history → IsSound (state_of capacity versions history)
sound_of capacity versions history h = sound_all (opening capacity versions) history h.legal (sound_opened capacity versions)
