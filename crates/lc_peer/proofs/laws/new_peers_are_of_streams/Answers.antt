use Rattle.lc_peer.proofs.StreamsKept.{new_peers_are_of_streams}
use Rattle.lc_peer.proofs.laws.new_peers_are_of_streams.Goals as goal

pub returns : goal.returns
returns c = new_peers_are_of_streams
