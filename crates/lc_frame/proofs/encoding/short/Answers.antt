use Rattle.std.proofs.Common.{rules}
use Rattle.lc_frame.proofs.encoding.short.Goals as goal

pub returns : goal.returns
returns c = search rules
