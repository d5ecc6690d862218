use Rattle.std.proofs.Common.{◌≡◌}
use Rattle.lc_inbox.specs.History.{took}
use Rattle.lc_inbox.specs.Sides.{IsSameSide}
use Rattle.lc_loopback.proofs.taking.issue.Given as goal

abbrev pub invariant-loop : goal.invariant-loop
invariant-loop g l =
    record {
      same : IsSameSide l.initial.end l.end;
      took : took l.end.seen ≡ took l.initial.end.seen;
    }
