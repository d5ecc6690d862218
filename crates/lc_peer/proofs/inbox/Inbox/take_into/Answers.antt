use Rattle.std.proofs.Common.{rules}
use Rattle.lc_peer.proofs.inbox.Inbox.take_into.Goals as goal

pub invariant_of-self : goal.invariant_of-self
invariant_of-self c = search rules
