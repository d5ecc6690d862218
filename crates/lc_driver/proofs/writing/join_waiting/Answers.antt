use Rattle.std.proofs.Common.{arith, ap, ◌∙◌, ◌++◌, List, ℕ}
use Rattle.lc_frame.specs.declared.version.Version.{Version}
use Rattle.lc_frame.specs.FrameRef.{frame_of}
use Rattle.lc_frame.specs.Encoding.{encoding}
use Rattle.lc_driver.proofs.Frames.{joins, joined_none}
use Rattle.lc_driver.proofs.writing.join_waiting.Goals as goal

pub frames-preserved : goal.frames-preserved
frames-preserved c = record {
  version = c.append.ensures.version ∙ c.frames.invariant.version;
  joined =
      c.if-not-append.ensures.after
      ∙ ap (λ (v : Version). c.frames.outgo.pending ++ encoding v (frame_of c.in-Some.frame)) c.frames.invariant.version
      ∙ ap (λ (x : List ℕ). x ++ encoding c.args.outgo.now.version (frame_of c.in-Some.frame)) c.frames.invariant.joined
      ∙ joins c.args.outgo.now.version c.args.outgo.now.pending c.args.peer.now.waiting c.frames.place (frame_of c.in-Some.frame) c.in-Some.ensures.value;
}

pub returns-clause-none : goal.returns-clause-none
returns-clause-none c = λ nothing. joined_none c.args.outgo.now.version c.args.outgo.now.pending c.frames.outgo.pending c.args.peer.now.waiting c.frames.place c.frames.invariant.joined (omega (arith, c.waiting-place-end.ensures.value, c.frames-test.false)) nothing
