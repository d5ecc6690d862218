use Rattle.std.proofs.Common.{rules}
use Rattle.lc_session.proofs.Pumped.{writes_all, writes_some}
use Rattle.lc_session.proofs.write_pump.write_pending.Goals as goal

pub returns-in-Ok-clause-writes : goal.returns-in-Ok-clause-writes
returns-in-Ok-clause-writes g c = writes_all _ _ _ _ _ _ c.bytes.ensures c.in-Ok.ensures.all c.in-Ok.ensures.grown c.clear.ensures.version c.clear.ensures.begun c.clear.ensures.waiting

pub returns-in-Err-Failed-clause-writes : goal.returns-in-Err-Failed-clause-writes
returns-in-Err-Failed-clause-writes g c = writes_some _ _ _ _ _ _ c.bytes.ensures (rw c.in-Err-Failed.field-0-is at c.in-Err-Failed.ensures.grown) c.note_written.ensures

pub returns-in-Err-Zero-clause-writes : goal.returns-in-Err-Zero-clause-writes
returns-in-Err-Zero-clause-writes g c = writes_some _ _ _ _ _ _ c.bytes.ensures (rw c.in-Err-Zero.field-0-is at c.in-Err-Zero.ensures.grown) c.note_written-in-Err-Zero.ensures

pub returns-in-Err-Zero-clause-counts : goal.returns-in-Err-Zero-clause-counts
returns-in-Err-Zero-clause-counts g c = search rules
