use Rattle.std.proofs.Common.{arith}
use Rattle.lc_loopback.proofs.Takes.{agree_more}
use Rattle.lc_loopback.proofs.balance.agree.Goals as goal

pub loop-channel-preserved : goal.loop-channel-preserved
loop-channel-preserved c = agree_more c.loop-channel.channel c.args.balances c.args.bytes c.loop-channel.all c.agrees-all.result _ _ (omega arith) (omega arith) c.loop-channel.invariant c.agrees-all.ensures
