use Rattle.std.proofs.Common.{rules}
use Rattle.std.proofs.lemmas.List.{get_or_read}
use Rattle.lc_peer.proofs.peer.Peer.client.Goals as goal

pub returns-clause-value : goal.returns-clause-value
returns-clause-value c = search (rules, get_or_read)
