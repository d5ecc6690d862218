use Rattle.std.proofs.Common.{rules}
use Rattle.lc_peer.proofs.peer.Peer.plead.Goals as goal

pub put-requires-clause-valid : goal.put-requires-clause-valid
put-requires-clause-valid c = search rules

pub returns-clause-answer : goal.returns-clause-answer
returns-clause-answer c = search rules
