use Rattle.lc_world.proofs.Guarantees.{keeps_guarantees}
use Rattle.lc_world.proofs.laws.every_history_keeps_guarantees.Goals as goal

pub returns : goal.returns
returns c = keeps_guarantees
