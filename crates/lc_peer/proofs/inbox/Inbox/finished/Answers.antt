use Rattle.std.proofs.Common.{rules}
use Rattle.lc_peer.proofs.inbox.Inbox.finished.Goals as goal

pub returns-clause-answer : goal.returns-clause-answer
returns-clause-answer c = search rules
