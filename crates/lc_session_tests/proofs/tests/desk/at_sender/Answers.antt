use Rattle.lc_session_tests.proofs.Sessions.{outboxes_set}
use Rattle.lc_session_tests.proofs.tests.desk.at_sender.Goals as goal

pub returns : goal.returns
returns g c = outboxes_set _ _ _ _ c.sends.ensures
