use Rattle.std.proofs.Common.{rules}
use Rattle.lc_frame.proofs.frame_ref.FrameRef.to_frame.Goals as goal

pub returns-clause-value : goal.returns-clause-value
returns-clause-value c = search rules
