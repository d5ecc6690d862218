use Rattle.std.proofs.Common.{◌≡◌, [], Some, arith, sym, ap, ◌∙◌}
use Rattle.std.specs.Prelude.{slice_get}
use Rattle.std.proofs.lemmas.List.{nil_from_length}
use Rattle.lc_frame.specs.declared.version.Version.{Version}
use Rattle.lc_frame.specs.FrameRef.{frame_of}
use Rattle.lc_frame.specs.Encoding.{encoding}
use Rattle.lc_peer.specs.Peer.{PeerState}
use Rattle.lc_peer.specs.Calls.{next}
use Rattle.lc_mux.proofs.Gives.{gives_none, gives_as, gives_whole, begun_whole, whole_front}
use Rattle.lc_mux.proofs.mux.writing.give_whole.Goals as goal

pub returns-clause-gives : goal.returns-clause-gives
returns-clause-gives c =
    let f = frame_of c.in-Some.frame in
    let version : c.version.result ≡ c.args.lines.now.scheduler.peer.version = c.version.ensures ∙ ap (λ (p : PeerState). p.version) c.peer-peer.ensures.value in
    let nothing : c.args.pending.now ≡ [] = nil_from_length c.args.pending.now (omega (arith, c.len.ensures.value, c.if-len-gt0.false)) in
    let first : next c.args.lines.now.scheduler.peer ≡ Some f = sym (c.in-Some.ensures.value ∙ ap (λ (p : PeerState). slice_get p.waiting 0) c.peer-peer.ensures.value) in
    let front = whole_front c.in-Ok.count (encoding c.version.result f) c.encode_to_slice.new.out _ c.in-Ok.ensures.count c.in-Ok.ensures.written in
    gives_as (ap (λ (v : Version). encoding v f) (sym version) ∙ front)
    (gives_whole c.args.closing c.args.owed.now c.args.lines.now c.take_frame-gone.new.owed c.take_frame-gone.new.lines c.note_written.new.owed c.note_written.new.lines c.args.pending.now f nothing first c.take_frame-gone.ensures.takes c.note_written.ensures.writes)

pub returns-clause-begun : goal.returns-clause-begun
returns-clause-begun c =
    let nothing : c.args.pending.now ≡ [] = nil_from_length c.args.pending.now (omega (arith, c.len.ensures.value, c.if-len-gt0.false)) in
    λ _. begun_whole c.args.closing c.take_frame-gone.new.owed c.take_frame-gone.new.lines c.note_written.new.owed c.note_written.new.lines c.args.pending.now nothing c.note_written.ensures.writes

pub returns-then-len-gt0-clause-gives : goal.returns-then-len-gt0-clause-gives
returns-then-len-gt0-clause-gives c = gives_none c.args.closing c.args.owed.now c.args.lines.now c.args.pending.now

pub returns-in-Err-clause-gives : goal.returns-in-Err-clause-gives
returns-in-Err-clause-gives c = gives_none c.args.closing c.args.owed.now c.args.lines.now c.args.pending.now

pub returns-in-None-clause-gives : goal.returns-in-None-clause-gives
returns-in-None-clause-gives c = gives_none c.args.closing c.args.owed.now c.args.lines.now c.args.pending.now

pub returns-clause-flushed : goal.returns-clause-flushed
returns-clause-flushed c = λ e _. c.note_written.ensures.flushed e
