use Rattle.std.proofs.Common.{rules}
use Rattle.lc_peer.proofs.inbox.Inbox.new.Goals as goal

pub returns-in_err-ring-clause-capacity : goal.returns-in_err-ring-clause-capacity
returns-in_err-ring-clause-capacity c = search rules
