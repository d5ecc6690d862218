use Rattle.std.proofs.Common.{length, arith, ap, ◌∙◌}
use Rattle.lc_frame.specs.declared.version.Version.{Version}
use Rattle.lc_frame.specs.FrameRef.{frame_of}
use Rattle.lc_frame.specs.Encoding.{encoding}
use Rattle.lc_c.proofs.Gives.{gives_whole}
use Rattle.lc_c.proofs.next.drop_next.Goals as goal

pub returns-clause-gives : goal.returns-clause-gives
returns-clause-gives c =
    let frame = frame_of c.in-Some.frame in
    let count = c.encoded_len-count.ensures.value ∙ ap (λ (v : Version). length (encoding v frame)) c.version-version.ensures in
    rw (← c.side.view_is) (gives_whole c.encoded_len-count.result _ frame c.next_out-gone.new.self (omega (arith, c.len.ensures.value, c.if-len-gt0.false)) c.in-Some.ensures.value c.next_out-gone.ensures.after count)
