use Rattle.lc_session_tests.proofs.Sessions.{sides_set}
use Rattle.lc_session_tests.proofs.tests.desk.at_receiver.Goals as goal

pub returns : goal.returns
returns g c = sides_set _ _ _ _ c.receives.ensures
