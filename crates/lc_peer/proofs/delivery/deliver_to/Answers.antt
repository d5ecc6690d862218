use Rattle.std.proofs.Common.{refl}
use Rattle.lc_peer.proofs.Longer.{goes_through}
use Rattle.lc_peer.proofs.delivery.deliver_to.Goals as goal

pub returns : goal.returns
returns g c = goes_through _ _ _ _ _ _ _ _ _ _ refl c.deliver_up_to-reached.ensures.reaches
