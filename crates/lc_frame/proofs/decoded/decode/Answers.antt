use Rattle.std.proofs.Common.{rules}
use Rattle.lc_frame.proofs.decoded.decode.Goals as goal

pub returns-in-Needs : goal.returns-in-Needs
returns-in-Needs c = search rules
