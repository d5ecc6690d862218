use Rattle.std.proofs.Common.{◌≡◌}
use Rattle.lc_outbox.specs.Outbox.{IsSameOutbox}
use Rattle.lc_loopback.proofs.Puts.{PutSome}
use Rattle.lc_loopback.proofs.sending.send_all.Given as goal

abbrev pub invariant-loop-number : goal.invariant-loop-number
invariant-loop-number g l =
    record {
      same : IsSameOutbox l.initial.end l.end;
      some : PutSome l.fn.exchange.plan l.initial.end l.end l.number;
      plan : l.message.plan ≡ l.fn.exchange.plan;
      channel : l.message.channel ≡ l.initial.end.channel;
    }
