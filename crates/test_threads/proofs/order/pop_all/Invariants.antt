use Rattle.lc_queue.specs.Parts.{IsSame}
use Rattle.test_threads.proofs.order.pop_all.Given as goal

abbrev pub invariant-loop : goal.invariant-loop
invariant-loop g l = IsSame l.drain.queue l.initial.drain.queue
