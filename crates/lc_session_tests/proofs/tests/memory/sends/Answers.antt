use Rattle.lc_session_tests.proofs.Sessions.{outboxes_set}
use Rattle.lc_session_tests.proofs.tests.memory.sends.Goals as goal

pub returns : goal.returns
returns g c = outboxes_set _ _ _ _ c.works_at.ensures
