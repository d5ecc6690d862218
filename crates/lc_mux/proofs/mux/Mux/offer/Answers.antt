use Rattle.std.proofs.Common.{◌≡◌, false, ap, ◌∙◌, subst}
use Rattle.lc_lines.specs.declared.queue.Ask.TheVariants.{Offer}
use Rattle.lc_lines.specs.Scheduler.{join}
use Rattle.lc_mux.specs.Mux.{MuxState}
use Rattle.lc_lines.specs.Lines.{with_scheduler}
use Rattle.lc_mux.specs.Flushing.{SettlesAndPuts}
use Rattle.lc_mux.proofs.Called.{join_put}
use Rattle.lc_mux.proofs.Closed.{fields_called}
use Rattle.lc_mux.proofs.mux.Mux.offer.Goals as goal

pub invariant_of-self-2 : goal.invariant_of-self-2
invariant_of-self-2 c =
    let i = c.self.inside in
    let s = i.lines.scheduler in
    let going : i.closing ≡ false = ap (λ (m : MuxState). m.closing) c.self.view_is ∙ c.in_ok-judge_send.ensures.open in
    fields_called i.owed i.lines c.put_unless.new.owed c.put_unless.new.lines (join s c.args.channel (record { ticket = c.args.ticket; ask = Offer c.args.len })) i.intake i.pending i.closing i.end (c.offer.new.self, (c.in_ok-offer.ensures.joins, c.put_unless.ensures.puts)) (join_put s c.args.channel (record { ticket = c.args.ticket; ask = Offer c.args.len })) going c.put_unless.ensures.flushed c.self.invariant

pub returns-clause-joins : goal.returns-clause-joins
returns-clause-joins c =
    subst (λ (x : MuxState). SettlesAndPuts x.closing x.owed (with_scheduler x.lines (join x.lines.scheduler c.args.channel (record { ticket = c.args.ticket; ask = Offer c.args.len }))) c.put_unless.new.owed c.put_unless.new.lines) c.self.view_is
    (c.offer.new.self, (c.in_ok-offer.ensures.joins, c.put_unless.ensures.puts))
