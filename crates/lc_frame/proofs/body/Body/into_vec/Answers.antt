use Rattle.std.proofs.Common.{rules}
use Rattle.lc_frame.proofs.body.Body.into_vec.Goals as goal

pub returns : goal.returns
returns c = search rules
