use Rattle.lc_inbox.specs.Sides.{IsSameSide}
use Rattle.lc_outbox.specs.Outbox.{IsSameOutbox}
use Rattle.example_tcp.proofs.tasks.serve.Given as goal

abbrev pub invariant-loop : goal.invariant-loop
invariant-loop g l = record {
  requests : IsSameSide l.fn.requests l.requests;
  answers : IsSameOutbox l.fn.answers l.answers;
}
