use Rattle.std.proofs.Common.{rules}
use Rattle.lc_frame.proofs.kind.Kind.allows.Goals as goal

pub returns-then-number-ge1-clause-fact : goal.returns-then-number-ge1-clause-fact
returns-then-number-ge1-clause-fact c = search rules

pub returns-then-number-ge1-2-clause-fact : goal.returns-then-number-ge1-2-clause-fact
returns-then-number-ge1-2-clause-fact c = search rules

pub returns-then-number-ge1-2-clause-value : goal.returns-then-number-ge1-2-clause-value
returns-then-number-ge1-2-clause-value c = search rules
