use Rattle.lc_credit.proofs.Targets.{taken_in_turn}
use Rattle.lc_credit.proofs.laws.targets_are_taken_in_turn.Goals as goal

pub returns : goal.returns
returns c = taken_in_turn
