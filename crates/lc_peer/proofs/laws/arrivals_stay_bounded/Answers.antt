use Rattle.lc_peer.proofs.Bounded.{arrivals_stay_bounded}
use Rattle.lc_peer.proofs.laws.arrivals_stay_bounded.Goals as goal

pub returns : goal.returns
returns c = arrivals_stay_bounded
