use Rattle.lc_session.proofs.Ended.{joins_here, joins_more, joins_all}
use Rattle.lc_session.proofs.report.join_lanes.Goals as goal

pub join-requires : goal.join-requires
join-requires c = record { one = joins_here _ _ _ _ _ _ c.loop-lane.invariant c.in-Some.ensures.steps }

pub loop-lane-preserved : goal.loop-lane-preserved
loop-lane-preserved c = joins_more _ _ _ _ _ _ _ c.loop-lane.invariant c.in-Some.ensures.steps c.join.ensures.after

pub returns : goal.returns
returns c = joins_all _ _ _ _ c.loop-lane.invariant c.in-None.ensures.steps.0
