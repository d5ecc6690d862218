use Rattle.std.proofs.Common.{◌∙◌}
use Rattle.lc_inbox.proofs.Places.{same_sides_set}
use Rattle.lc_queue_tests.proofs.tests.seven.issue_each.Goals as goal

pub loop-place-preserved : goal.loop-place-preserved
loop-place-preserved g c = same_sides_set c.loop-place.outgoing c.loop-place.place _ _ c.issue_room.ensures ∙ c.loop-place.invariant
