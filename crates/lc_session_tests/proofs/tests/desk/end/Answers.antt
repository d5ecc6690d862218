use Rattle.lc_session.specs.Parts.{state_of}
use Rattle.lc_session_tests.proofs.Sessions.{senders_stay, receivers_stay}
use Rattle.lc_session_tests.proofs.tests.desk.end.Goals as goal

pub returns-in_default : goal.returns-in_default
returns-in_default g c = senders_stay (state_of c.args.parts.now) c.at_sender.new.ends c.at_sender.ensures

pub returns-in-issue : goal.returns-in-issue
returns-in-issue g c = receivers_stay (state_of c.args.parts.now) c.at_receiver.new.ends c.at_receiver.ensures
