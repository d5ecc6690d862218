use Rattle.lc_world.proofs.Credit.{credit_is_conserved}
use Rattle.lc_world.proofs.laws.credit_is_conserved.Goals as goal

pub returns : goal.returns
returns c = credit_is_conserved
