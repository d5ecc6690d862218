use Rattle.lc_outbox.specs.Outbox.{IsSameOutbox}
use Rattle.example_threads.proofs.send_all.Given as goal

abbrev pub invariant-loop-number : goal.invariant-loop-number
invariant-loop-number g l = IsSameOutbox l.fn.end l.end
