-- The parts of a session as its threads have them. They are this project's own.
use Rattle.lc_session.specs.declared.parts.Parts.{Parts}
use Rattle.lc_session.specs.Report.{SessionState}

-- what contracts see of the parts of a session
abbrev pub state_of : Parts → SessionState
state_of p = record { sending = p.send_ends; receiving = p.recv_ends; reading = p.read_pump; writing = p.write_pump }
