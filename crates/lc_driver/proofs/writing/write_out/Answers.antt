use Rattle.std.proofs.Common.{◌≡◌, ◌∙◌, arith, ap, sym, subst, refl, take, List, ℕ, length-append}
use Rattle.std.specs.List.{flat_map, AllByRecursion}
use Rattle.lc_frame.specs.declared.version.Version.{Version}
use Rattle.lc_frame.specs.Encoding.{encoding}
use Rattle.lc_frame.specs.Frame.{IsValid}
use Rattle.lc_frame.proofs.Fronts.{frame_fits}
use Rattle.lc_peer.specs.Peer.{PeerState}
use Rattle.lc_driver.specs.Writing.{Writes, fault_written}
use Rattle.lc_driver.proofs.Counting.{none_told_then}
use Rattle.lc_driver.proofs.Frames.{all_fit}
use Rattle.lc_driver.proofs.Written.{writes_nothing, writes_then, written_after, text_left}
use Rattle.lc_driver.proofs.writing.write_out.Goals as goal

pub batches-init : goal.batches-init
batches-init g c =
    let waiting = c.waiting-waiting.ensures in
    let v = c.args.outgo.now.version in
    let each = subst (λ (w : Version). AllByRecursion (IsValid w) c.args.peer.now.waiting) (sym c.requires) waiting.kept.each in
    record {
      small = omega (arith, c.pending-pending.ensures.value, c.pending-pending.ensures.most, waiting.value, waiting.small, frame_fits v, all_fit v c.args.peer.now.waiting each, length-append c.args.outgo.now.pending (flat_map (encoding c.args.outgo.now.version) c.args.peer.now.waiting));
      version = refl;
      peer_version = sym c.requires;
      writes = writes_nothing _ _ _ _ 0 refl;
      counts = refl;
      untouched = λ nothing. refl;
    }

pub batches-smaller : goal.batches-smaller
batches-smaller g c =
    let start : take c.pending-rest.result c.join_waiting.new.outgo.pending ≡ c.batches.outgo.pending = ap (λ (n : ℕ). take n c.join_waiting.new.outgo.pending) c.pending-rest.ensures.value ∙ c.join_waiting.ensures.begun in
    let same : c.join_waiting.new.outgo.version ≡ c.args.outgo.now.version = c.join_waiting.ensures.version ∙ c.batches.invariant.version in
    let wrote = subst (λ (x : List ℕ). Writes c.args.outgo.now.version (g.W.Write.contents c.batches.writer) (g.W.Write.contents c.write_joined.new.writer) x c.batches.peer c.write_joined.new.outgo.pending c.write_joined.new.peer c.in-Ok.n) start
    (subst (λ (v : Version). Writes v (g.W.Write.contents c.batches.writer) (g.W.Write.contents c.write_joined.new.writer) (take c.pending-rest.result c.join_waiting.new.outgo.pending) c.batches.peer c.write_joined.new.outgo.pending c.write_joined.new.peer c.in-Ok.n) same c.in-Ok.ensures.writes) in
    omega (arith, text_left _ wrote, c.in-Ok.ensures.all.1, c.if-pending-eq0.false, c.pending.ensures.value)

pub batches-preserved : goal.batches-preserved
batches-preserved g c =
    let at = c.batches.invariant in
    let start : take c.pending-rest.result c.join_waiting.new.outgo.pending ≡ c.batches.outgo.pending = ap (λ (n : ℕ). take n c.join_waiting.new.outgo.pending) c.pending-rest.ensures.value ∙ c.join_waiting.ensures.begun in
    let same : c.join_waiting.new.outgo.version ≡ c.args.outgo.now.version = c.join_waiting.ensures.version ∙ c.batches.invariant.version in
    let wrote = subst (λ (x : List ℕ). Writes c.args.outgo.now.version (g.W.Write.contents c.batches.writer) (g.W.Write.contents c.write_joined.new.writer) x c.batches.peer c.write_joined.new.outgo.pending c.write_joined.new.peer c.in-Ok.n) start
    (subst (λ (v : Version). Writes v (g.W.Write.contents c.batches.writer) (g.W.Write.contents c.write_joined.new.writer) (take c.pending-rest.result c.join_waiting.new.outgo.pending) c.batches.peer c.write_joined.new.outgo.pending c.write_joined.new.peer c.in-Ok.n) same c.in-Ok.ensures.writes) in
    record {
      small = omega (arith, at.small, text_left _ wrote);
      version = c.write_joined.ensures.version ∙ same;
      peer_version = ap (λ (p : PeerState). p.version) wrote.peer ∙ at.peer_version;
      writes = writes_then _ _ at.writes wrote refl;
      counts = none_told_then (g.W.Failures.counts c.args.writer.now) (g.W.Failures.counts c.batches.writer) (g.W.Failures.counts c.write_joined.new.writer) at.counts c.in-Ok.ensures.counts;
      untouched = λ nothing. absurd (omega (arith, nothing, text_left _ at.writes, text_left _ wrote, c.in-Ok.ensures.all.1, c.if-pending-eq0.false, c.pending.ensures.value));
    }

pub returns-in-Err-clause-writes : goal.returns-in-Err-clause-writes
returns-in-Err-clause-writes g c =
    let start : take c.pending-rest.result c.join_waiting.new.outgo.pending ≡ c.batches.outgo.pending = ap (λ (n : ℕ). take n c.join_waiting.new.outgo.pending) c.pending-rest.ensures.value ∙ c.join_waiting.ensures.begun in
    let same : c.join_waiting.new.outgo.version ≡ c.args.outgo.now.version = c.join_waiting.ensures.version ∙ c.batches.invariant.version in
    let wrote = subst (λ (x : List ℕ). Writes c.args.outgo.now.version (g.W.Write.contents c.batches.writer) (g.W.Write.contents c.write_joined.new.writer) x c.batches.peer c.write_joined.new.outgo.pending c.write_joined.new.peer (fault_written c.in-Err.fault)) start
    (subst (λ (v : Version). Writes v (g.W.Write.contents c.batches.writer) (g.W.Write.contents c.write_joined.new.writer) (take c.pending-rest.result c.join_waiting.new.outgo.pending) c.batches.peer c.write_joined.new.outgo.pending c.write_joined.new.peer (fault_written c.in-Err.fault)) same c.in-Err.ensures.writes) in
    writes_then _ _ c.batches.invariant.writes wrote (ap fault_written c.after.ensures ∙ written_after c.in-Err.fault c.batches.written)
