use Rattle.lc_credit.specs.Sides.{IsIdle, IsUnfinished}
use Rattle.lc_credit.specs.Channels.{SameCredit}
use Rattle.test_threads.proofs.sharing.use_up.Given as goal

abbrev pub invariant-turns : goal.invariant-turns
invariant-turns l = record { same : SameCredit l.fn.end l.end; idle : IsIdle l.end; unfinished : IsUnfinished l.end }
