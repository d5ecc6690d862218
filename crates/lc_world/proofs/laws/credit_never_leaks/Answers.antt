use Rattle.lc_world.proofs.Credit.{credit_never_leaks}
use Rattle.lc_world.proofs.laws.credit_never_leaks.Goals as goal

pub returns : goal.returns
returns c = credit_never_leaks
