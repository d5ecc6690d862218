use Rattle.std.proofs.Common.{◌≡◌}
use Rattle.test_threads.proofs.order.push.Given as goal

abbrev pub invariant-loop : goal.invariant-loop
invariant-loop g l = (l.end ≡ l.initial.end) × (l.frame ≡ l.initial.frame)
