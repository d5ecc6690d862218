use Rattle.lc_interleaving.proofs.Sessions.{reports_are_a_state as law}
use Rattle.lc_interleaving.proofs.laws.reports_are_a_state.Goals as goal

pub returns : goal.returns
returns c = law
