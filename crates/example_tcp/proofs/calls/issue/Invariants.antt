use Rattle.lc_inbox.specs.Sides.{IsSameSide}
use Rattle.example_tcp.proofs.calls.issue.Given as goal

abbrev pub invariant-loop : goal.invariant-loop
invariant-loop g l = IsSameSide l.initial.end l.end
