use Rattle.std.proofs.Common.{rules}
use Rattle.lc_frame.proofs.frame_ref.FrameRef.channel.Goals as goal

pub returns-in-Send : goal.returns-in-Send
returns-in-Send c = search rules
