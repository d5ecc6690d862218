use Rattle.lc_inbox.specs.Sides.{IsSameSide}
use Rattle.example_tcp.proofs.tasks.collect.Given as goal

abbrev pub invariant-loop : goal.invariant-loop
invariant-loop g l = IsSameSide l.fn.answers l.answers
