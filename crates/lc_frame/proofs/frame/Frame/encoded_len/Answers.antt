use Rattle.std.proofs.Common.{rules}
use Rattle.lc_frame.proofs.frame.Frame.encoded_len.Goals as goal

pub returns-clause-value : goal.returns-clause-value
returns-clause-value c = search rules

pub returns-clause-longest : goal.returns-clause-longest
returns-clause-longest c = search rules
