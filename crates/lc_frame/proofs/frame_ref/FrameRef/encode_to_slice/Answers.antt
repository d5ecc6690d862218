use Rattle.std.proofs.Common.{rules}
use Rattle.lc_frame.proofs.frame_ref.FrameRef.encode_to_slice.Goals as goal

pub returns-in-Send-clause-written : goal.returns-in-Send-clause-written
returns-in-Send-clause-written c = search rules
