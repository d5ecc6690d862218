use Rattle.std.proofs.Common.{◌≡◌, ◌++◌, length}
use Rattle.std.specs.Array.Iter.{array_into_iter_items}
use Rattle.lc_frame.specs.Channel.{channel_count}
use Rattle.lc_credit.proofs.Channels.{AreSettledSoFar}
use Rattle.lc_credit.proofs.balance.settle_all.Given as goal

abbrev pub invariant-loop-end : goal.invariant-loop-end
invariant-loop-end l =
    record {
      at : l.channel ≡ length l.yielded;
      channels : l.channels ≡ l.initial.channels;
      size : length l.balances ≡ channel_count;
      settled : AreSettledSoFar l.initial.channels l.yielded l.balances;
      rest : l.yielded ++ array_into_iter_items l.end-iterator ≡ l.fn.outgoing;
    }
