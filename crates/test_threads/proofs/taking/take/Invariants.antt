use Rattle.std.proofs.Common.{◌≡◌}
use Rattle.test_threads.proofs.taking.take.Given as goal

abbrev pub invariant-loop : goal.invariant-loop
invariant-loop g l = l.outgoing.inbox ≡ l.initial.outgoing.inbox
