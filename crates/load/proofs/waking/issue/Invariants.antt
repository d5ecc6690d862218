use Rattle.lc_inbox.specs.Sides.{IsSameSide}
use Rattle.load.proofs.waking.issue.Given as goal

abbrev pub invariant-loop : goal.invariant-loop
invariant-loop g l = IsSameSide l.initial.end l.end
