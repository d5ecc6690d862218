use Rattle.std.proofs.Common.{take, subst, ap, ◌∙◌}
use Rattle.lc_peer.specs.Peer.{PeerState}
use Rattle.lc_mux.specs.Mux.{MuxState}
use Rattle.lc_mux.specs.Writing.{Gives}
use Rattle.lc_mux.proofs.Puts.{enter_all-rings, flush_put, flush_rings}
use Rattle.lc_mux.proofs.Gives.{gives_none, gives_flush, gives_then}
use Rattle.lc_mux.proofs.Closed.{begun_same}
use Rattle.lc_mux.proofs.mux.Mux.write.Goals as goal

pub returns-then-is_some-clause-gives : goal.returns-then-is_some-clause-gives
returns-then-is_some-clause-gives c = gives_none c.args.self.now.closing c.args.self.now.owed c.args.self.now.lines c.args.self.now.pending

pub returns-clause-gives : goal.returns-clause-gives
returns-clause-gives c =
    let i = c.self.inside in
    let flush = c.flush_unless in
    subst (λ (x : MuxState). Gives x.closing (take c.give.result c.give.new.out) x.owed x.lines x.pending c.give.new.owed c.give.new.lines c.give.new.pending) c.self.view_is
    (gives_then (gives_flush i.closing i.owed i.lines flush.new.owed flush.new.lines i.pending flush.ensures.flushes) c.give.ensures.gives)

pub returns-clause-unwritten : goal.returns-clause-unwritten
returns-clause-unwritten c =
    let i = c.self.inside in
    let flush = c.flush_unless in
    let puts = flush_put i.closing i.owed i.lines flush.new.owed flush.new.lines flush.ensures.flushes in
    c.give.ensures.begun (begun_same i.lines.scheduler flush.new.lines.scheduler i.pending puts.1.begun c.self.invariant.begun)

pub invariant_of-self : goal.invariant_of-self
invariant_of-self c =
    let i = c.self.inside in
    let flush = c.flush_unless in
    let gave = c.give.ensures in
    let puts = flush_put i.closing i.owed i.lines flush.new.owed flush.new.lines flush.ensures.flushes in
    record {
      rings = ap (λ (p : PeerState). p.capacities) gave.gives.peer
          ∙ (enter_all-rings gave.gives.entered flush.new.lines.scheduler.peer
          ∙ (flush_rings i.closing i.owed i.lines flush.new.owed flush.new.lines flush.ensures.flushes ∙ c.self.invariant.rings));
      going = c.self.invariant.going;
      begun = gave.begun (begun_same i.lines.scheduler flush.new.lines.scheduler i.pending puts.1.begun c.self.invariant.begun);
      flushed = λ e. gave.flushed e (flush.ensures.flushed e);
      closed = λ e. gave.closed e (flush.ensures.closed e (c.self.invariant.closed e));
    }
