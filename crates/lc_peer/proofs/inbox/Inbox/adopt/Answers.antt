use Rattle.std.proofs.Common.{rules}
use Rattle.lc_peer.proofs.inbox.Inbox.adopt.Goals as goal

pub returns : goal.returns
returns c = search rules
