use Rattle.std.proofs.Common.{subst, sym}
use Rattle.lc_lines.specs.Lines.{LinesState, NoticesNext}
use Rattle.lc_mux.specs.Mux.{MuxState, AreMuxFields}
use Rattle.lc_mux.specs.Flushing.{PutsUnless}
use Rattle.lc_mux.proofs.Closed.{fields_noticed}
use Rattle.lc_mux.proofs.mux.Mux.next_notice.Goals as goal

pub invariant_of-self : goal.invariant_of-self
invariant_of-self c =
    let i = c.self.inside in
    subst (λ (x : LinesState). AreMuxFields x i.owed i.intake i.pending i.closing i.end) (sym c.in_err-notice.ensures.none.0) c.self.invariant

pub invariant_of-self-2 : goal.invariant_of-self-2
invariant_of-self-2 c =
    let i = c.self.inside in
    fields_noticed c.in_ok-notice.notice i.owed i.lines c.next_notice.new.self c.put_unless.new.owed c.put_unless.new.lines i.intake i.pending i.closing i.end c.in_ok-notice.ensures.some c.put_unless.ensures.puts c.put_unless.ensures.flushed c.self.invariant

pub returns-clause-some : goal.returns-clause-some
returns-clause-some c =
    subst (λ (x : MuxState). (between : LinesState) × (NoticesNext c.in_ok-notice.notice x.lines between × PutsUnless x.closing x.owed between c.put_unless.new.owed c.put_unless.new.lines)) c.self.view_is
    (c.next_notice.new.self, (c.in_ok-notice.ensures.some, c.put_unless.ensures.puts))
