use Rattle.std.proofs.Common.{rules}
use Rattle.lc_credit.proofs.credit_out.CreditOut.pending.Goals as goal

pub returns : goal.returns
returns c = search rules
