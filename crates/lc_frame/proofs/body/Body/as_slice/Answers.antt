use Rattle.std.proofs.Common.{rules}
use Rattle.lc_frame.proofs.body.Body.as_slice.Goals as goal

pub returns : goal.returns
returns c = search rules
