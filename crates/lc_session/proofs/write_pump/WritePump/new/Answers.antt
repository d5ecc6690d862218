use Rattle.std.proofs.Common.{ap}
use Rattle.lc_session.specs.Batch.{BatchState}
use Rattle.lc_session.proofs.Pumped.{new_keeps}
use Rattle.lc_session.proofs.write_pump.WritePump.new.Goals as goal

pub invariant_of-result : goal.invariant_of-result
invariant_of-result c = (new_keeps _ _ c.requires.drain c.requires.batch, ap (λ (b : BatchState). b.version) c.requires.batch)
