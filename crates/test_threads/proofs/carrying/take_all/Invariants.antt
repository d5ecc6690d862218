use Rattle.std.proofs.Common.{◌≡◌, IfOk}
use Rattle.lc_inbox.specs.History.{took}
use Rattle.lc_inbox.specs.Sides.{IsSameSide}
use Rattle.test_threads.proofs.carrying.take_all.Given as goal

abbrev pub invariant-loop : goal.invariant-loop
invariant-loop g l =
    record {
      same : IsSameSide l.fn.outgoing l.outgoing;
      took : IfOk l.taken (λ all. took l.outgoing.seen ≡ all.items);
    }
