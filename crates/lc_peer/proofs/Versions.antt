-- All channels of a peer send in its version.
use Rattle.std.proofs.Common.{◌≡◌, ℕ, List, [], ◌∷◌, map, refl, zero, suc}
use Rattle.std.specs.Prelude.{slice_set}
use Rattle.std.specs.List.{AllByRecursion}
use Rattle.lc_frame.specs.declared.version.Version.{Version}
use Rattle.lc_peer.specs.Peer.{new_channel}

pub made_versions : (version : Version) (capacities : List ℕ) → AllByRecursion (λ s. s.client.version ≡ version) (map (new_channel version) capacities)
made_versions version [] = tt
made_versions version (n ∷ capacities) = (refl, made_versions version capacities)

-- one element is another, for which the property holds too
pub each_set : {X : Type 0} (P : X → Type 0) (xs : List X) (n : ℕ) (x : X) → AllByRecursion P xs → P x → AllByRecursion P (slice_set xs n x)
each_set P [] n x each here = each
each_set P (y ∷ ys) zero x each here = (here, each.1)
each_set P (y ∷ ys) (suc n) x each here = (each.0, each_set P ys n x each.1 here)
