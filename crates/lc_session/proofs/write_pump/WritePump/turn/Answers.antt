use Rattle.std.proofs.Common.{refl, rules, ◌∙◌}
use Rattle.lc_session.proofs.Pumped.{goes_keep, pumps_on, pumps_popped}
use Rattle.lc_session.proofs.write_pump.WritePump.turn.Goals as goal

pub invariant_of-self : goal.invariant_of-self
invariant_of-self g c = (goes_keep _ _ _ _ c.self.invariant.0 c.self.invariant.1 c.write_pending.ensures.writes.goes, c.write_pending.ensures.writes.goes.version ∙ c.self.invariant.1)

pub returns-then-ne-clause-pumps : goal.returns-then-ne-clause-pumps
returns-then-ne-clause-pumps g c = pumps_on _ _ _ _ _ c.join_popped-found.ensures.pops c.rest.ensures.pumps

pub returns-in-Ok-clause-pumps : goal.returns-in-Ok-clause-pumps
returns-in-Ok-clause-pumps g c = pumps_popped _ _ _ _ _ refl c.flush_counted.ensures.bytes c.join_popped-found.ensures.pops

pub returns-in-Err-clause-pumps : goal.returns-in-Err-clause-pumps
returns-in-Err-clause-pumps g c = pumps_popped _ _ _ _ _ refl c.flush_counted.ensures.bytes c.join_popped-found.ensures.pops

pub returns-in-Ok-clause-end : goal.returns-in-Ok-clause-end
returns-in-Ok-clause-end g c = search rules

pub returns-in-Ok-clause-counts : goal.returns-in-Ok-clause-counts
returns-in-Ok-clause-counts g c = search rules
