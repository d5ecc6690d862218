use Rattle.lc_session.proofs.Played.{are_played_on}
use Rattle.lc_session.proofs.laws.sessions_are_played_on.Goals as goal

pub returns : goal.returns
returns c = are_played_on
