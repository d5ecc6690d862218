use Rattle.std.proofs.Common.{rules}
use Rattle.lc_peer.proofs.peer.Peer.next_out.Goals as goal

pub returns-clause-value : goal.returns-clause-value
returns-clause-value c = search rules

pub returns-clause-after : goal.returns-clause-after
returns-clause-after c = search rules

pub returns-clause-valid : goal.returns-clause-valid
returns-clause-valid c = search rules
