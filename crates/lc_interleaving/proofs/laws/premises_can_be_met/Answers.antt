use Rattle.lc_interleaving.proofs.Examples.{premises_can_be_met as law}
use Rattle.lc_interleaving.proofs.laws.premises_can_be_met.Goals as goal

pub returns : goal.returns
returns c = law
