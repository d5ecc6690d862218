use Rattle.std.proofs.Common.{rules}
use Rattle.lc_ring.proofs.ring.RecvRing.free.Goals as goal

pub returns-clause-value : goal.returns-clause-value
returns-clause-value c = search rules
