use Rattle.std.proofs.Common.{rules}
use Rattle.lc_credit.proofs.credit_out.CreditOut.absolve.Goals as goal

pub returns-clause-ok : goal.returns-clause-ok
returns-clause-ok c = search rules
