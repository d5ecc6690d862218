use Rattle.std.proofs.Common.{◌≡◌, false, ap, ◌∙◌, subst}
use Rattle.lc_lines.specs.Scheduler.{send_reserved}
use Rattle.lc_mux.specs.Mux.{MuxState}
use Rattle.lc_lines.specs.Lines.{with_scheduler}
use Rattle.lc_mux.specs.Flushing.{SettlesAndPuts}
use Rattle.lc_mux.proofs.Called.{send_reserved_put}
use Rattle.lc_mux.proofs.Closed.{fields_called}
use Rattle.lc_mux.proofs.mux.Mux.send_reserved.Goals as goal

pub invariant_of-self-2 : goal.invariant_of-self-2
invariant_of-self-2 c =
    let i = c.self.inside in
    let s = i.lines.scheduler in
    let going : i.closing ≡ false = ap (λ (m : MuxState). m.closing) c.self.view_is ∙ c.in_ok-judge_call.ensures.open in
    fields_called i.owed i.lines c.put_unless.new.owed c.put_unless.new.lines (send_reserved s c.args.channel c.args.len c.args.body.now) i.intake i.pending i.closing i.end (c.send_reserved.new.self, (c.in_ok-send_reserved.ensures.sends, c.put_unless.ensures.puts)) (send_reserved_put s c.args.channel c.args.len c.args.body.now) going c.put_unless.ensures.flushed c.self.invariant

pub returns-clause-sends : goal.returns-clause-sends
returns-clause-sends c =
    subst (λ (x : MuxState). SettlesAndPuts x.closing x.owed (with_scheduler x.lines (send_reserved x.lines.scheduler c.args.channel c.args.len c.args.body.now)) c.put_unless.new.owed c.put_unless.new.lines) c.self.view_is
    (c.send_reserved.new.self, (c.in_ok-send_reserved.ensures.sends, c.put_unless.ensures.puts))
