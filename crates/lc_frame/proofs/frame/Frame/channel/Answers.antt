use Rattle.std.proofs.Common.{rules}
use Rattle.lc_frame.proofs.frame.Frame.channel.Goals as goal

pub returns : goal.returns
returns c = search rules
