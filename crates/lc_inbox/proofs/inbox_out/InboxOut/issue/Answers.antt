use Rattle.std.proofs.Common.{rules}
use Rattle.lc_inbox.proofs.inbox_out.InboxOut.issue.Goals as goal

pub returns-clause-turn : goal.returns-clause-turn
returns-clause-turn g c = search rules
