use Rattle.std.proofs.Common.{arith}
use Rattle.lc_world.proofs.Deliveries.{deliver_none, deliver_acts}
use Rattle.lc_world.proofs.act.deliver.Goals as goal

pub returns-then-peer-len : goal.returns-then-peer-len
returns-then-peer-len c = deliver_none c.args.me.now c.args.peer.now c.requires c.args.count (omega (arith, c.if-peer-len.true, c.len.ensures, c.args.peer.now.stream.ok.0))

pub returns : goal.returns
returns c = deliver_acts c.args.me.now c.args.peer.now c.requires c.bring-frames.new.me c.bring-frames.new.peer c.args.count c.min-len.result c.bring-frames.result (omega (arith, c.min-len.ensures, c.len-2.ensures, c.args.peer.now.stream.ok.0)) (omega (arith, c.if-peer-len.false, c.len.ensures, c.args.peer.now.stream.ok.0)) c.bring-frames.ensures
