use Rattle.lc_history.proofs.Histories.{known_same}
use Rattle.lc_history.proofs.laws.sides_know_their_own.Goals as goal

pub returns : goal.returns
returns g c = λ seen history own of mine knows. known_same own of mine seen history knows
