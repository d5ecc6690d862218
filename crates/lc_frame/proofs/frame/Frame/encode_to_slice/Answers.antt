use Rattle.std.proofs.Common.{rules}
use Rattle.lc_frame.proofs.frame.Frame.encode_to_slice.Goals as goal

pub returns-clause-need : goal.returns-clause-need
returns-clause-need c = search rules

pub returns-clause-short : goal.returns-clause-short
returns-clause-short c = search rules
