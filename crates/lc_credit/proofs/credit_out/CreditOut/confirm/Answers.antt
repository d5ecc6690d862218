use Rattle.std.proofs.Common.{rules}
use Rattle.lc_credit.proofs.credit_out.CreditOut.confirm.Goals as goal

pub returns-in-Spend-clause-after : goal.returns-in-Spend-clause-after
returns-in-Spend-clause-after c = search rules
