use Rattle.std.proofs.Common.{rules}
use Rattle.lc_frame.proofs.frame_ref.FrameRef.is_valid.Goals as goal

pub returns-then-is_in : goal.returns-then-is_in
returns-then-is_in c = search rules
