use Rattle.std.proofs.Common.{◌≡◌, ap, ◌∙◌, subst, sym}
use Rattle.std.specs.Prelude.{length}
use Rattle.lc_frame.specs.Channel.{channel_count}
use Rattle.lc_frame.specs.Stored.{fed}
use Rattle.lc_frame.specs.Splits.{frames_of}
use Rattle.lc_peer.specs.Peer.{PeerState}
use Rattle.lc_lines.specs.Lines.{with_scheduler}
use Rattle.lc_lines.proofs.Fields.{SameQueue, arrivals_keep}
use Rattle.lc_mux.proofs.Puts.{settles_rings, settles_begun, flush_put, flush_rings}
use Rattle.lc_mux.proofs.Closed.{begun_same, arrivals_rings, arrivals_version, stop_none, closed_same}
use Rattle.lc_mux.proofs.mux.Mux.deliver.Goals as goal

pub invariant_of-self : goal.invariant_of-self
invariant_of-self c =
    let l = c.self.inside.lines in
    let p = l.scheduler.peer in
    let d = c.deliver_through-delivery in
    let came = d.ensures.after in
    let frames = frames_of (fed c.self.inside.intake.held c.args.piece.now) in
    let mid = with_scheduler l (record l.scheduler { peer = came.peer }) in
    let places : length p.channels ≡ channel_count = c.peer-peer.ensures.places in
    let version = ap (λ (q : PeerState). q.version) came.delivers.peer ∙ arrivals_version p frames in
    let flush = c.flush_unless in
    let puts = flush_put c.self.inside.closing c.self.inside.owed d.new.self flush.new.owed flush.new.lines flush.ensures.flushes in
    record {
      rings = flush_rings c.self.inside.closing c.self.inside.owed d.new.self flush.new.owed flush.new.lines flush.ensures.flushes ∙ (settles_rings mid d.new.self came.settles ∙ (ap (λ (q : PeerState). q.capacities) came.delivers.peer ∙ (arrivals_rings p frames ∙ (c.self.invariant.rings ∙ sym d.ensures.rings))));
      going = λ e. d.ensures.stop ∙ stop_none d.result.stop (sym c.end_of_stop-self-inside.ensures ∙ e);
      begun = begun_same l.scheduler flush.new.lines.scheduler c.self.inside.pending (puts.1.begun ∙ settles_begun mid d.new.self came.settles) c.self.invariant.begun;
      flushed = flush.ensures.flushed;
      closed = λ e. flush.ensures.closed e (closed_same l d.new.self came.peer (subst (SameQueue p) (sym came.delivers.peer) (arrivals_keep p frames places)) version came.settles (c.self.invariant.closed e));
    }
