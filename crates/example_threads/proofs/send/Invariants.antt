use Rattle.lc_outbox.specs.Outbox.{IsSameOutbox}
use Rattle.example_threads.proofs.send.Given as goal

abbrev pub invariant-loop : goal.invariant-loop
invariant-loop g l = IsSameOutbox l.initial.end l.end
