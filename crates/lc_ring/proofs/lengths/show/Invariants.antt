-- Each turn reads a length.
use Rattle.std.proofs.Common.{length}
use Rattle.lc_ring.proofs.lengths.show.Given as goal

abbrev pub decreases-lengths : goal.decreases-lengths
decreases-lengths g l = length l.left
