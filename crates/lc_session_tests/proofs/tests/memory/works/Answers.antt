use Rattle.lc_session.proofs.Same.{pump_then, session_stays}
use Rattle.lc_session_tests.proofs.tests.memory.works.Goals as goal

pub returns : goal.returns
returns g c = λ one. session_stays _ _ one (record { sending = c.sends-sent.ensures; receiving = c.issue.ensures; reading = c.receive.ensures; writing = pump_then c.args.parts.write_pump c.write-out.new.pump c.write.new.pump c.write-out.ensures c.write.ensures })
