use Rattle.lc_world.proofs.Restored.{credit_comes_back}
use Rattle.lc_world.proofs.laws.credit_comes_back.Goals as goal

pub returns : goal.returns
returns c = credit_comes_back
