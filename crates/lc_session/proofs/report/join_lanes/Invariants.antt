use Rattle.std.specs.Array.Iter.{array_into_iter_items}
use Rattle.lc_session.proofs.Ended.{JoinsSome}
use Rattle.lc_session.proofs.report.join_lanes.Given as goal

abbrev pub invariant-loop-lane : goal.invariant-loop-lane
invariant-loop-lane l = JoinsSome l.fn.drain l.fn.lanes l.drain (array_into_iter_items l.lane-iterator)
