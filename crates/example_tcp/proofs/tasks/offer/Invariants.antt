use Rattle.lc_outbox.specs.Outbox.{IsSameOutbox}
use Rattle.example_tcp.proofs.tasks.offer.Given as goal

abbrev pub invariant-loop-item : goal.invariant-loop-item
invariant-loop-item g l = IsSameOutbox l.fn.names l.names
