use Rattle.std.proofs.Common.{rules}
use Rattle.lc_queue.proofs.lane_end.LaneEnd.lane.Goals as goal

pub returns-clause-value : goal.returns-clause-value
returns-clause-value c = search rules
