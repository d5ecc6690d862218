use Rattle.lc_credit.proofs.Channels.{same_credits}
use Rattle.lc_credit.proofs.credit_in.CreditIn.ask.Goals as goal

pub returns-clause-same : goal.returns-clause-same
returns-clause-same c = same_credits _ _ c.self.view_is _ _ _ c.ask.ensures.same
