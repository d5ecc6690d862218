use Rattle.std.proofs.Common.{refl}
use Rattle.lc_driver.proofs.Counting.{none_told_then}
use Rattle.lc_session.proofs.Pumped.{pumps_nothing, pumps_then}
use Rattle.lc_session.proofs.write_pump.WritePump.pump.Goals as goal

pub turns-init : goal.turns-init
turns-init g c = record { pumps = pumps_nothing _ _; counts = refl }

pub returns-in-Some-turn-clause-pumps : goal.returns-in-Some-turn-clause-pumps
returns-in-Some-turn-clause-pumps g c = pumps_then _ _ _ _ _ _ c.turns.invariant.pumps c.in-Some-turn.ensures.pumps

pub turns-preserved : goal.turns-preserved
turns-preserved g c =
    let at = c.turns.invariant in
    let step = c.in-None-turn.ensures in
    record { pumps = pumps_then _ _ _ _ _ _ at.pumps step.pumps; counts = none_told_then (g.W.Failures.counts c.args.writer.now) (g.W.Failures.counts c.turns.writer) (g.W.Failures.counts c.turn.new.writer) at.counts step.counts }
