use Rattle.std.proofs.Common.{length, arith, sym, ap, subst}
use Rattle.lc_frame.specs.declared.version.Version.{Version}
use Rattle.lc_frame.specs.Frame.{IsValid}
use Rattle.lc_frame.specs.FrameRef.{frame_of}
use Rattle.lc_frame.specs.Encoding.{encoding}
use Rattle.lc_frame.proofs.Fronts.{frame_fits}
use Rattle.lc_c.proofs.Waiting.{length-one-more}
use Rattle.lc_c.proofs.streams.count.Goals as goal

pub frames-preserved : goal.frames-preserved
frames-preserved c =
    let frame = frame_of c.in-Some.frame in
    let more = length-one-more c.side.inside.peer.version c.side.inside.peer.waiting c.frames.place frame c.in-Some.ensures.value in
    let same = ap (λ (v : Version). length (encoding v frame)) c.version-version.ensures in
    let valid = subst (λ (v : Version). IsValid v frame) (sym c.version-version.ensures) c.in-Some.ensures.valid in
    record {
      count = omega (arith, c.frames.invariant.count, c.encoded_len-count.ensures.value, same, more);
      small = omega (arith, c.frames.invariant.small, c.encoded_len-count.ensures.longest valid, frame_fits c.version-version.result);
    }
