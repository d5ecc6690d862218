use Rattle.lc_session.proofs.Same.{same_pump}
use Rattle.lc_session.proofs.write_pump.WritePump.run.Goals as goal

pub returns-clause-same : goal.returns-clause-same
returns-clause-same g c = same_pump _ _ _ _ c.pump-end.ensures.pumps
