use Rattle.std.proofs.Common.{◌≡◌}
use Rattle.test_threads.proofs.taking.take_all.Given as goal

abbrev pub invariant-loop-number : goal.invariant-loop-number
invariant-loop-number g l = l.outgoing.inbox ≡ l.initial.outgoing.inbox
