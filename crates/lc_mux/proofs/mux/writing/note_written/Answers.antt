use Rattle.lc_mux.proofs.Puts.{closed_write}
use Rattle.lc_mux.proofs.mux.writing.note_written.Goals as goal

pub returns-clause-writes : goal.returns-clause-writes
returns-clause-writes c = (c.note_written.new.self, (c.note_written.ensures.after, c.put_unless.ensures.puts))

pub returns-clause-closed : goal.returns-clause-closed
returns-clause-closed c = λ e h. closed_write c.args.left c.args.closing c.args.owed.now c.args.lines.now c.put_unless.new.owed c.put_unless.new.lines e h (c.note_written.new.self, (c.note_written.ensures.after, c.put_unless.ensures.puts))
