use Rattle.lc_queue.specs.Parts.{IsSame}
use Rattle.test_parts.proofs.queue.join_all.Given as goal

abbrev pub invariant-loop-end : goal.invariant-loop-end
invariant-loop-end l = IsSame l.drain.queue l.initial.drain.queue
