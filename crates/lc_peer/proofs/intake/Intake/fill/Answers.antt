use Rattle.lc_peer.proofs.Intakes.{still_open}
use Rattle.lc_peer.proofs.intake.Intake.fill.Goals as goal

pub invariant_of-self : goal.invariant_of-self
invariant_of-self g c = still_open _ _ _ _ _ _ _ c.fill-filled.ensures.filled c.self.invariant
