use Rattle.lc_queue.specs.Parts.{IsSameEnd}
use Rattle.test_threads.proofs.order.push_all.Given as goal

abbrev pub invariant-loop-number : goal.invariant-loop-number
invariant-loop-number g l = IsSameEnd l.initial.end l.end
