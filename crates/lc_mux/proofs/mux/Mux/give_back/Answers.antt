use Rattle.std.proofs.Common.{subst}
use Rattle.lc_lines.specs.Scheduler.{give_back}
use Rattle.lc_mux.specs.Mux.{MuxState}
use Rattle.lc_lines.specs.Lines.{with_scheduler}
use Rattle.lc_mux.specs.Flushing.{SettlesAndPuts}
use Rattle.lc_mux.proofs.Called.{give_back_put}
use Rattle.lc_mux.proofs.Closed.{fields_called}
use Rattle.lc_mux.proofs.mux.Mux.give_back.Goals as goal

pub invariant_of-self : goal.invariant_of-self
invariant_of-self c =
    let i = c.self.inside in
    let s = i.lines.scheduler in
    fields_called i.owed i.lines c.put_unless.new.owed c.put_unless.new.lines (give_back s c.args.channel c.args.len) i.intake i.pending i.closing i.end (c.give_back-was_out.new.self, (c.give_back-was_out.ensures.after, c.put_unless.ensures.puts)) (give_back_put s c.args.channel c.args.len) c.if-self.false c.put_unless.ensures.flushed c.self.invariant

pub returns-clause-after : goal.returns-clause-after
returns-clause-after c =
    λ _. subst (λ (x : MuxState). SettlesAndPuts x.closing x.owed (with_scheduler x.lines (give_back x.lines.scheduler c.args.channel c.args.len)) c.put_unless.new.owed c.put_unless.new.lines) c.self.view_is
    (c.give_back-was_out.new.self, (c.give_back-was_out.ensures.after, c.put_unless.ensures.puts))
