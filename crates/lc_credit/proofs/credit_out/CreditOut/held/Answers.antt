use Rattle.std.proofs.Common.{rules}
use Rattle.lc_credit.proofs.credit_out.CreditOut.held.Goals as goal

pub returns-then-is_finished-clause-holds : goal.returns-then-is_finished-clause-holds
returns-then-is_finished-clause-holds c = search rules
