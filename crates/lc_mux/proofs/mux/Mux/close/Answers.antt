use Rattle.std.proofs.Common.{◌≡◌, true, false, ap, ◌∙◌, subst, sym}
use Rattle.std.specs.Prelude.{is_some}
use Rattle.lc_lines.specs.Scheduler.{SchedulerState}
use Rattle.lc_lines.specs.Lines.{LinesState}
use Rattle.lc_mux.specs.Mux.{MuxState}
use Rattle.lc_mux.specs.Ends.{over, close}
use Rattle.lc_mux.proofs.Puts.{close_put}
use Rattle.lc_mux.proofs.Closed.{begun_same, close_rings, closes_to}
use Rattle.lc_mux.proofs.mux.Mux.close.Goals as goal

pub invariant_of-self : goal.invariant_of-self
invariant_of-self c =
    let s = c.self.inside.lines.scheduler in
    let is = ap (λ (l : LinesState). l.scheduler) c.close.ensures.after in
    record {
      rings = ap (λ (x : SchedulerState). x.peer.capacities) is ∙ (close_rings s ∙ c.self.invariant.rings);
      going = c.self.invariant.going;
      begun = begun_same s c.close.new.self.scheduler c.self.inside.pending (ap (λ (x : SchedulerState). x.begun) is ∙ (close_put s).1.begun) c.self.invariant.begun;
      flushed = λ e. cc;
      closed = λ _. c.close.ensures.closed;
    }

pub returns-clause-after : goal.returns-clause-after
returns-clause-after c =
    let i = c.self.inside in
    let m : MuxState = record { lines = i.lines; owed = i.owed; intake = i.intake; pending = i.pending; closing = i.closing; input_ended = i.input_ended; end = i.end } in
    let going : is_some (over c.args.self.now) ≡ false = cc (c.over.ensures, c.is_some.ensures, c.if-is_some.false) in
    subst (λ (x : MuxState). record m { lines = c.close.new.self; closing = true } ≡ close x) c.self.view_is
    (ap (λ (l : LinesState). record m { lines = l; closing = true }) c.close.ensures.after ∙ closes_to m (subst (λ (x : MuxState). is_some (over x) ≡ false) (sym c.self.view_is) going))
