use Rattle.lc_peer.proofs.Deliveries.{delivers}
use Rattle.lc_peer.proofs.peer.Peer.deliver.Goals as goal

pub returns : goal.returns
returns c = delivers _ _ _ _ _ _ c.deliver_to.ensures
