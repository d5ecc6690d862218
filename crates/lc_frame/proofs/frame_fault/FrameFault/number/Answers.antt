use Rattle.std.proofs.Common.{rules}
use Rattle.lc_frame.proofs.frame_fault.FrameFault.number.Goals as goal

pub returns-in-Truncated : goal.returns-in-Truncated
returns-in-Truncated c = search rules
