use Rattle.lc_inbox.specs.Inboxes.{AreSameSides}
use Rattle.lc_queue_tests.proofs.tests.seven.issue_each.Given as goal

abbrev pub invariant-loop-place : goal.invariant-loop-place
invariant-loop-place g l = AreSameSides l.fn.outgoing l.outgoing
