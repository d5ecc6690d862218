use Rattle.std.proofs.Common.{rules}
use Rattle.lc_peer.proofs.inbox.Inbox.book.Goals as goal

pub returns-clause-value : goal.returns-clause-value
returns-clause-value c = search rules

pub returns-clause-kept : goal.returns-clause-kept
returns-clause-kept c = search rules
