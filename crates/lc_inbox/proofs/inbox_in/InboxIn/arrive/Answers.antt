use Rattle.std.proofs.Common.{rules}
use Rattle.lc_inbox.proofs.inbox_in.InboxIn.arrive.Goals as goal

pub returns-clause-turn : goal.returns-clause-turn
returns-clause-turn g c = search rules
