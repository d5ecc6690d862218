use Rattle.std.proofs.Common.{sym, inl, arith}
use Rattle.lc_frame.specs.FrameRef.{frame_of}
use Rattle.lc_frame.proofs.Stored.{fed_nothing, whole_has}
use Rattle.lc_peer.proofs.delivery.feed_open.Goals as goal

pub returns-in-Some : goal.returns-in-Some
returns-in-Some c =
    let decoder = c.args.decoder.now in
    record {
      count = omega arith;
      held = sym (fed_nothing decoder c.stored-stored.ensures.settled);
      shortest = λ k less. absurd (omega (arith, less));
      stop = λ some. inl (frame_of c.in-Some._frame, whole_has (frame_of c.in-Some._frame) decoder c.in-Some.ensures.found);
    }
