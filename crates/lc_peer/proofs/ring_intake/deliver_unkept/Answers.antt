use Rattle.std.proofs.Common.{arith}
use Rattle.lc_frame.specs.Stored.{nothing_stored}
use Rattle.lc_peer.proofs.Longer.{goes_on, kept_on}
use Rattle.lc_peer.proofs.ring_intake.deliver_unkept.Goals as goal

pub returns-clause-goes : goal.returns-clause-goes
returns-clause-goes g c = goes_on g.S.FrameSink.arrived g.S.FrameSink.violated (g.S.RingSink.rings c.args.sink.now) c.args.sink.now c.args.skip c.args.piece.now c.requires.skip (λ i. omega (arith, c.type_inv.piece i)) c.skip_on-skip.result.count c.skip_on-skip.result.violation c.skip_on-skip.new.sink c.skip_on-skip.result.skip c.skip_on-skip.ensures c.stop_by.result c.stop_by.ensures nothing_stored

pub returns-clause-kept : goal.returns-clause-kept
returns-clause-kept g c = λ rings decoder kept. kept_on rings c.args.skip c.skip_on-skip.result.skip decoder c.skip_on-skip.ensures.version kept
