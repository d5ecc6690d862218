use Rattle.std.proofs.Common.{subst}
use Rattle.lc_peer.specs.RingIntake.{IsKept}
use Rattle.lc_peer.proofs.Longer.{is_kept}
use Rattle.lc_peer.proofs.ring_intake.RingIntake.kept.Goals as goal

pub returns-clause-little : goal.returns-clause-little
returns-clause-little c = subst IsKept c.self.view_is (is_kept _ _ _ _ c.self.invariant.skips c.self.invariant.kept)
