use Rattle.std.proofs.Common.{◌≡◌, false, ap, ◌∙◌, subst}
use Rattle.lc_lines.specs.Scheduler.{reserve}
use Rattle.lc_mux.specs.Mux.{MuxState}
use Rattle.lc_lines.specs.Lines.{with_scheduler}
use Rattle.lc_mux.specs.Flushing.{SettlesAndPuts}
use Rattle.lc_mux.proofs.Called.{reserve_put}
use Rattle.lc_mux.proofs.Closed.{fields_called}
use Rattle.lc_mux.proofs.mux.Mux.reserve.Goals as goal

pub invariant_of-self-2 : goal.invariant_of-self-2
invariant_of-self-2 c =
    let i = c.self.inside in
    let s = i.lines.scheduler in
    let going : i.closing ≡ false = ap (λ (m : MuxState). m.closing) c.self.view_is ∙ c.in_ok-judge_send.ensures.open in
    fields_called i.owed i.lines c.put_unless.new.owed c.put_unless.new.lines (reserve s c.args.channel c.args.ticket c.args.len) i.intake i.pending i.closing i.end (c.reserve.new.self, (c.in_ok-progress.ensures.reserves, c.put_unless.ensures.puts)) (reserve_put s c.args.channel c.args.ticket c.args.len) going c.put_unless.ensures.flushed c.self.invariant

pub returns-clause-reserves : goal.returns-clause-reserves
returns-clause-reserves c =
    subst (λ (x : MuxState). SettlesAndPuts x.closing x.owed (with_scheduler x.lines (reserve x.lines.scheduler c.args.channel c.args.ticket c.args.len)) c.put_unless.new.owed c.put_unless.new.lines) c.self.view_is
    (c.reserve.new.self, (c.in_ok-progress.ensures.reserves, c.put_unless.ensures.puts))
