use Rattle.std.specs.List.{All}
use Rattle.lc_queue.specs.Parts.{IsSame}
use Rattle.test_threads.proofs.order.start_all.Given as goal

abbrev pub invariant-loop-end : goal.invariant-loop-end
invariant-loop-end g l = All (λ pushing. IsSame l.fn.drain.queue pushing.promise.0.value.queue) l.all.items
