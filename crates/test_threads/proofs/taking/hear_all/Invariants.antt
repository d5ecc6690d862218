use Rattle.std.proofs.Common.{◌≡◌}
use Rattle.test_threads.proofs.taking.hear_all.Given as goal

abbrev pub invariant-loop-number : goal.invariant-loop-number
invariant-loop-number g l = l.incoming.inbox ≡ l.initial.incoming.inbox
