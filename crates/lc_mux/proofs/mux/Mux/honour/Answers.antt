use Rattle.std.proofs.Common.{◌≡◌, false, ap, ◌∙◌}
use Rattle.lc_mux.specs.Mux.{MuxState}
use Rattle.lc_mux.proofs.Closed.{fields_owed}
use Rattle.lc_mux.proofs.mux.Mux.honour.Goals as goal

pub invariant_of-self-2 : goal.invariant_of-self-2
invariant_of-self-2 c =
    let i = c.self.inside in
    let going : i.closing ≡ false = ap (λ (m : MuxState). m.closing) c.self.view_is ∙ c.in_ok-judge_call.ensures.open in
    fields_owed i.owed c.honour.new.self i.lines c.flush_unless.new.owed c.flush_unless.new.lines i.intake i.pending i.closing i.end c.flush_unless.ensures.flushes going c.flush_unless.ensures.flushed c.self.invariant
