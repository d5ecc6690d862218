use Rattle.lc_inbox.specs.Sides.{IsSameSide}
use Rattle.example_threads.proofs.take_all.Given as goal

abbrev pub invariant-loop-number : goal.invariant-loop-number
invariant-loop-number g l = IsSameSide l.fn.end l.end
