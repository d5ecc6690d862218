use Rattle.std.proofs.Common.{◌-◌}
use Rattle.lc_session.proofs.Batches.{IsOnItsWay}
use Rattle.lc_session.proofs.batch.frame_end.Given as goal

abbrev pub invariant-frames : goal.invariant-frames
invariant-frames l = IsOnItsWay l.version l.begun l.bytes l.written l.end l.frames

abbrev pub decreases-frames : goal.decreases-frames
decreases-frames l = l.written - l.end
