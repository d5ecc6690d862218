use Rattle.std.proofs.Common.{rules}
use Rattle.lc_peer.proofs.inbox.Inbox.sending_limited.Goals as goal

pub returns-clause-after : goal.returns-clause-after
returns-clause-after c = search rules
