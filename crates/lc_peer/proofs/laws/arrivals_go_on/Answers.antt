use Rattle.lc_peer.proofs.Stops.{arrivals_go_on}
use Rattle.lc_peer.proofs.laws.arrivals_go_on.Goals as goal

pub returns : goal.returns
returns c = arrivals_go_on
