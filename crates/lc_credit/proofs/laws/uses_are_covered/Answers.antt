use Rattle.lc_credit.proofs.Histories.{covers_each_use}
use Rattle.lc_credit.proofs.laws.uses_are_covered.Goals as goal

pub returns : goal.returns
returns c = covers_each_use
