use Rattle.std.proofs.Common.{rules}
use Rattle.lc_credit.proofs.credit_out.CreditOut.take_asked.Goals as goal

pub returns-then-asked-eq0-clause-after : goal.returns-then-asked-eq0-clause-after
returns-then-asked-eq0-clause-after c = search rules

pub returns-clause-after : goal.returns-clause-after
returns-clause-after c = search rules
