use Rattle.std.proofs.Common.{◌≡◌, take}
use Rattle.lc_inbox.specs.Sides.{IsSameSide}
use Rattle.test_threads.specs.Arrivals.{arrived}
use Rattle.test_threads.proofs.carrying.hear_each.Given as goal

abbrev pub invariant-loop-body : goal.invariant-loop-body
invariant-loop-body g l =
    record {
      same : IsSameSide l.fn.incoming l.incoming;
      arrived : arrived l.incoming ≡ take l.body-index l.given;
    }
