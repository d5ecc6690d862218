use Rattle.lc_queue.specs.Parts.{IsSame}
use Rattle.test_threads.proofs.order.join_all.Given as goal

abbrev pub invariant-loop-pushing : goal.invariant-loop-pushing
invariant-loop-pushing g l = IsSame l.drain.queue l.initial.drain.queue
