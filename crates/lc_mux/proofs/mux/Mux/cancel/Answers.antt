use Rattle.std.proofs.Common.{subst}
use Rattle.lc_lines.specs.Scheduler.{cancel}
use Rattle.lc_mux.specs.Mux.{MuxState}
use Rattle.lc_lines.specs.Lines.{with_scheduler}
use Rattle.lc_mux.specs.Flushing.{SettlesAndPuts}
use Rattle.lc_mux.proofs.Called.{cancel_put}
use Rattle.lc_mux.proofs.Closed.{fields_called}
use Rattle.lc_mux.proofs.mux.Mux.cancel.Goals as goal

pub invariant_of-self : goal.invariant_of-self
invariant_of-self c =
    let i = c.self.inside in
    let s = i.lines.scheduler in
    fields_called i.owed i.lines c.put_unless.new.owed c.put_unless.new.lines (cancel s c.args.channel c.args.ticket) i.intake i.pending i.closing i.end (c.cancel-waited.new.self, (c.cancel-waited.ensures.after, c.put_unless.ensures.puts)) (cancel_put s c.args.channel c.args.ticket) c.if-self.false c.put_unless.ensures.flushed c.self.invariant

pub returns-clause-after : goal.returns-clause-after
returns-clause-after c =
    λ _. subst (λ (x : MuxState). SettlesAndPuts x.closing x.owed (with_scheduler x.lines (cancel x.lines.scheduler c.args.channel c.args.ticket)) c.put_unless.new.owed c.put_unless.new.lines) c.self.view_is
    (c.cancel-waited.new.self, (c.cancel-waited.ensures.after, c.put_unless.ensures.puts))
