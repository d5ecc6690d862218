use Rattle.std.proofs.Common.{rules}
use Rattle.lc_ring.proofs.Cuts.{ring_is_kept}
use Rattle.lc_ring.proofs.ring.RecvRing.capacity.Goals as goal

pub returns-clause-value : goal.returns-clause-value
returns-clause-value c = search rules

pub returns-clause-kept : goal.returns-clause-kept
returns-clause-kept c = rw (← c.self.view_is) (ring_is_kept c.self.inside.lengths c.self.inside.bytes c.self.inside.until_cut c.self.invariant)
