use Rattle.lc_session.proofs.Pumped.{keeps_itself, pumps_popped, pumps_same}
use Rattle.lc_session.proofs.write_pump.WritePump.rest.Goals as goal

pub returns-then-not-is_to_sleep-clause-pumps : goal.returns-then-not-is_to_sleep-clause-pumps
returns-then-not-is_to_sleep-clause-pumps g c = pumps_same _ _ _ _ c.self.view_is (keeps_itself _)

pub returns-then-is_err-clause-pumps : goal.returns-then-is_err-clause-pumps
returns-then-is_err-clause-pumps g c = pumps_same _ _ _ _ c.self.view_is c.flush_counted.ensures.bytes

pub returns-clause-pumps : goal.returns-clause-pumps
returns-clause-pumps g c = pumps_popped _ _ _ _ _ c.self.view_is c.flush_counted.ensures.bytes c.join_popped.ensures.pops
