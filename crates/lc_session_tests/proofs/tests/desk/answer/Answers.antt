use Rattle.lc_session.specs.Parts.{state_of}
use Rattle.lc_session_tests.proofs.Sessions.{reader_stays}
use Rattle.lc_session_tests.proofs.tests.desk.answer.Goals as goal

pub returns-in-read : goal.returns-in-read
returns-in-read g c = reader_stays (state_of c.args.desk.now.parts) c.read.new.pump c.read.ensures
