use Rattle.std.proofs.Common.{length}
use Rattle.lc_bench.proofs.operation.decode_all.Given as goal

abbrev pub decreases-loop-frame : goal.decreases-loop-frame
decreases-loop-frame l = length l.rest
