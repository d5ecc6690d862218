use Rattle.std.proofs.Common.{◌≡◌, false, ap, ◌∙◌, subst}
use Rattle.lc_lines.specs.Scheduler.{try_send}
use Rattle.lc_mux.specs.Mux.{MuxState}
use Rattle.lc_lines.specs.Lines.{with_scheduler}
use Rattle.lc_mux.specs.Flushing.{SettlesAndPuts}
use Rattle.lc_mux.proofs.Called.{try_send_put}
use Rattle.lc_mux.proofs.Closed.{fields_called}
use Rattle.lc_mux.proofs.mux.Mux.try_send.Goals as goal

pub invariant_of-self-2 : goal.invariant_of-self-2
invariant_of-self-2 c =
    let i = c.self.inside in
    let s = i.lines.scheduler in
    let going : i.closing ≡ false = ap (λ (m : MuxState). m.closing) c.self.view_is ∙ c.in_ok-judge_send.ensures.open in
    fields_called i.owed i.lines c.put_unless.new.owed c.put_unless.new.lines (try_send s c.args.channel c.args.body.now) i.intake i.pending i.closing i.end (c.try_send.new.self, (c.in_ok-answer.ensures.sends, c.put_unless.ensures.puts)) (try_send_put s c.args.channel c.args.body.now) going c.put_unless.ensures.flushed c.self.invariant

pub returns-clause-sends : goal.returns-clause-sends
returns-clause-sends c =
    subst (λ (x : MuxState). SettlesAndPuts x.closing x.owed (with_scheduler x.lines (try_send x.lines.scheduler c.args.channel c.args.body.now)) c.put_unless.new.owed c.put_unless.new.lines) c.self.view_is
    (c.try_send.new.self, (c.in_ok-answer.ensures.sends, c.put_unless.ensures.puts))
