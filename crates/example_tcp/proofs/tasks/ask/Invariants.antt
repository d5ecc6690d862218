use Rattle.lc_inbox.specs.Sides.{IsSameSide}
use Rattle.lc_outbox.specs.Outbox.{IsSameOutbox}
use Rattle.example_tcp.proofs.tasks.ask.Given as goal

abbrev pub invariant-loop : goal.invariant-loop
invariant-loop g l = record {
  names : IsSameSide l.fn.names l.names;
  requests : IsSameOutbox l.fn.requests l.requests;
}
