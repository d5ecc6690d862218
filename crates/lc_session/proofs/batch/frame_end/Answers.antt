use Rattle.std.proofs.Common.{arith}
use Rattle.lc_session.proofs.Batches.{next_stands, goes_on, used_is, stands_in}
use Rattle.lc_session.proofs.batch.frame_end.Goals as goal

pub frames-preserved : goal.frames-preserved
frames-preserved c =
    let at = c.frames.invariant in
    let next = next_stands _ _ _ c.frames.frames c.frames.end c.requires.whole at.end_is (omega (arith, c.frames-test.true, c.requires.within)) in
    goes_on _ _ _ _ _ _ _ at next (used_is _ _ _ _ _ _ c.split_at.ensures.back next.stands c.in-Whole.ensures.0 c.in-Whole.ensures.1) c.frames-test.true

pub unreachable-requires : goal.unreachable-requires
unreachable-requires c =
    let at = c.frames.invariant in
    let next = next_stands _ _ _ c.frames.frames c.frames.end c.requires.whole at.end_is (omega (arith, c.frames-test.true, c.requires.within)) in
    c.in-More.ensures.no_frame next.frame (stands_in _ _ _ _ c.split_at.ensures.back next.stands)

pub unreachable-requires-in-Fault : goal.unreachable-requires-in-Fault
unreachable-requires-in-Fault c =
    let at = c.frames.invariant in
    let next = next_stands _ _ _ c.frames.frames c.frames.end c.requires.whole at.end_is (omega (arith, c.frames-test.true, c.requires.within)) in
    c.in-Fault.ensures.no_frame next.frame (stands_in _ _ _ _ c.split_at.ensures.back next.stands)
