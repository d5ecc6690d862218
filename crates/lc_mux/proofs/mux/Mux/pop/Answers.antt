use Rattle.std.proofs.Common.{subst}
use Rattle.lc_peer.specs.Calls.{take_on}
use Rattle.lc_lines.specs.Lines.{with_scheduler}
use Rattle.lc_mux.specs.Mux.{MuxState}
use Rattle.lc_mux.specs.Flushing.{SettlesAndPuts}
use Rattle.lc_mux.proofs.Closed.{fields_taken}
use Rattle.lc_mux.proofs.mux.Mux.pop.Goals as goal

pub invariant_of-self : goal.invariant_of-self
invariant_of-self c =
    let i = c.self.inside in
    fields_taken i.owed i.lines c.pop-take.new.self c.put_unless.new.owed c.put_unless.new.lines c.args.channel i.intake i.pending i.closing i.end c.peer-peer.ensures.places c.pop-take.ensures.after c.put_unless.ensures.puts c.put_unless.ensures.flushed c.self.invariant

pub returns-clause-takes : goal.returns-clause-takes
returns-clause-takes c =
    subst (λ (x : MuxState). SettlesAndPuts x.closing x.owed (with_scheduler x.lines (record x.lines.scheduler { peer = take_on x.lines.scheduler.peer c.args.channel })) c.put_unless.new.owed c.put_unless.new.lines) c.self.view_is
    (c.pop-take.new.self, (c.pop-take.ensures.after, c.put_unless.ensures.puts))
