use Rattle.lc_peer.proofs.Stops.{arrivals_stop_at_the_first}
use Rattle.lc_peer.proofs.laws.arrivals_stop_at_the_first.Goals as goal

pub returns : goal.returns
returns c = arrivals_stop_at_the_first
