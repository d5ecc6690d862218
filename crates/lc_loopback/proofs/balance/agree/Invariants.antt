use Rattle.std.proofs.Common.{IsTrue, take}
use Rattle.std.specs.List.{AllZip}
use Rattle.lc_loopback.specs.Played.{AgreesWith}
use Rattle.lc_loopback.proofs.balance.agree.Given as goal

abbrev pub invariant-loop-channel : goal.invariant-loop-channel
invariant-loop-channel l = IsTrue l.all → AllZip AgreesWith (take l.channel l.fn.balances) (take l.channel l.fn.bytes)
