use Rattle.lc_peer.proofs.StreamsKept.{calls_keep_streams}
use Rattle.lc_peer.proofs.laws.calls_keep_streams.Goals as goal

pub returns : goal.returns
returns c = calls_keep_streams
