use Rattle.std.proofs.Common.{◌≡◌}
use Rattle.lc_outbox.specs.Outbox.{IsSameOutbox}
use Rattle.lc_loopback.proofs.sending.send.Given as goal

abbrev pub invariant-loop : goal.invariant-loop
invariant-loop g l =
    record {
      same : IsSameOutbox l.initial.end l.end;
      put : l.end.lane ≡ l.initial.end.lane;
    }
