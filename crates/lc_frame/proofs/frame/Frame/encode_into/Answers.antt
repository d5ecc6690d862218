use Rattle.std.proofs.Common.{rules}
use Rattle.lc_frame.proofs.frame.Frame.encode_into.Goals as goal

pub returns-clause-ok : goal.returns-clause-ok
returns-clause-ok c = search rules
