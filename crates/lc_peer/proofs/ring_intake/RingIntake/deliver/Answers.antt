use Rattle.std.proofs.Common.{ap, ◌∙◌}
use Rattle.lc_peer.proofs.Longer.{rings_came}
use Rattle.lc_peer.proofs.ring_intake.RingIntake.deliver.Goals.{in-Some-take, in-None}
use Rattle.lc_peer.proofs.ring_intake.RingIntake.deliver.Goals as goal

pub returns-clause-rings : goal.returns-clause-rings
returns-clause-rings g c = elim c.match-take.branch [
  | in-Some-take w ↦ ap g.S.RingSink.rings w.sink-is ∙ rings_came g.S.FrameSink.arrived g.S.FrameSink.violated g.S.RingSink.rings g.met.S.RingSink.keeps g.met.S.RingSink.keeps_refused _ _ _ _ _ w.deliver_unkept-went.ensures.goes.delivers.came
  | in-None w ↦ ap g.S.RingSink.rings w.sink-is ∙ rings_came g.S.FrameSink.arrived g.S.FrameSink.violated g.S.RingSink.rings g.met.S.RingSink.keeps g.met.S.RingSink.keeps_refused _ _ _ _ _ w.deliver_kept-went.ensures.goes.delivers.came
]
