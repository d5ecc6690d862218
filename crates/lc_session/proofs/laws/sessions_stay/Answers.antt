use Rattle.lc_session.proofs.Same.{session_stays}
use Rattle.lc_session.proofs.laws.sessions_stay.Goals as goal

pub returns : goal.returns
returns c = session_stays
