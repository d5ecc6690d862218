use Rattle.std.proofs.Common.{◌≡◌, [], None, Some, arith, subst, sym, ap, ◌∙◌}
use Rattle.std.specs.Prelude.{slice_get}
use Rattle.std.proofs.lemmas.List.{nil_from_length}
use Rattle.lc_frame.specs.declared.version.Version.{Version}
use Rattle.lc_frame.specs.Frame.{IsValid}
use Rattle.lc_frame.specs.Encoding.{encoding}
use Rattle.lc_peer.specs.Peer.{PeerState}
use Rattle.lc_peer.specs.Calls.{next}
use Rattle.lc_mux.proofs.Gives.{valid_first, none_first, gives_none, gives_begin, begun_begin}
use Rattle.lc_mux.proofs.mux.writing.begin_next.Goals as goal

pub returns-clause-gives : goal.returns-clause-gives
returns-clause-gives c =
    let is = c.begin.ensures ∙ ap (λ (v : Version). encoding v c.in-Some.frame) (c.version-version.ensures ∙ ap (λ (p : PeerState). p.version) c.peer-peer.ensures.value) in
    let nothing : c.args.pending.now ≡ [] = nil_from_length c.args.pending.now (omega (arith, c.len.ensures.value, c.if-len-gt0.false)) in
    let first : next c.args.lines.now.scheduler.peer ≡ Some c.in-Some.frame = sym c.take_frame.ensures.value ∙ c.in-Some.is in
    gives_begin c.args.closing c.args.owed.now c.args.lines.now c.take_frame.new.owed c.take_frame.new.lines c.args.pending.now c.begin.new.self c.in-Some.frame nothing first c.take_frame.ensures.takes is

pub returns-clause-begun : goal.returns-clause-begun
returns-clause-begun c =
    let is = c.begin.ensures ∙ ap (λ (v : Version). encoding v c.in-Some.frame) (c.version-version.ensures ∙ ap (λ (p : PeerState). p.version) c.peer-peer.ensures.value) in
    let first : next c.args.lines.now.scheduler.peer ≡ Some c.in-Some.frame = sym c.take_frame.ensures.value ∙ c.in-Some.is in
    λ _. begun_begin c.args.closing c.args.owed.now c.args.lines.now c.take_frame.new.owed c.take_frame.new.lines c.begin.new.self c.in-Some.frame first c.take_frame.ensures.takes is

pub returns-then-len-gt0-clause-gives : goal.returns-then-len-gt0-clause-gives
returns-then-len-gt0-clause-gives c = gives_none c.args.closing c.args.owed.now c.args.lines.now c.args.pending.now

pub returns-then-waiting-eq0-clause-gives : goal.returns-then-waiting-eq0-clause-gives
returns-then-waiting-eq0-clause-gives c = gives_none c.args.closing c.args.owed.now c.args.lines.now c.args.pending.now

pub returns-clause-flushed : goal.returns-clause-flushed
returns-clause-flushed c = λ e _. c.take_frame.ensures.flushed e

pub begin-requires-clause-valid : goal.begin-requires-clause-valid
begin-requires-clause-valid c =
    let p = c.peer-peer.result.now in
    let first : slice_get p.waiting 0 ≡ Some c.in-Some.frame = ap (λ (q : PeerState). slice_get q.waiting 0) c.peer-peer.ensures.value ∙ (sym c.take_frame.ensures.value ∙ c.in-Some.is) in
    subst (λ (v : Version). IsValid v c.in-Some.frame) (sym c.version-version.ensures) (valid_first p.version p.waiting c.in-Some.frame c.waiting.ensures.kept.each first)

pub unreachable-requires : goal.unreachable-requires
unreachable-requires c =
    let p = c.peer-peer.result.now in
    let none : slice_get p.waiting 0 ≡ None = ap (λ (q : PeerState). slice_get q.waiting 0) c.peer-peer.ensures.value ∙ (sym c.take_frame.ensures.value ∙ c.in-None.is) in
    c.if-waiting-eq0.false (c.waiting.ensures.value ∙ none_first p.waiting none)
