use Rattle.std.proofs.Common.{ℕ, List, subst}
use Rattle.lc_peer.specs.Longer.{FitsAny}
use Rattle.lc_peer.proofs.rings.Rings.most.Goals as goal

pub returns : goal.returns
returns c = subst (λ (ns : List ℕ). FitsAny c.self.inside.most ns) c.self.view_is c.self.invariant
