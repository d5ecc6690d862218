use Rattle.std.proofs.Common.{◌≡◌}
use Rattle.lc_inbox.specs.Sides.{IsSameSide}
use Rattle.lc_loopback.proofs.Takes.{TookSome}
use Rattle.lc_loopback.proofs.taking.take_all.Given as goal

abbrev pub invariant-loop-number : goal.invariant-loop-number
invariant-loop-number g l =
    record {
      same : IsSameSide l.fn.end l.end;
      some : TookSome l.fn.exchange.plan l.fn.end l.end l.number l.taken;
      plan : l.message.plan ≡ l.fn.exchange.plan;
      channel : l.message.channel ≡ l.fn.end.key.channel;
    }
