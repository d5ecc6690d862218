use Rattle.std.proofs.Common.{rules}
use Rattle.std.proofs.lemmas.List.{get_or_read}
use Rattle.lc_peer.proofs.peer.Peer.server.Goals as goal

pub returns-clause-value : goal.returns-clause-value
returns-clause-value c = search (rules, get_or_read)

pub returns-clause-kept : goal.returns-clause-kept
returns-clause-kept c = search (rules, get_or_read)
