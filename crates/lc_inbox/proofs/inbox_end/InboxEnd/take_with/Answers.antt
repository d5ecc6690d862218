use Rattle.std.proofs.Common.{rules}
use Rattle.lc_inbox.proofs.inbox_end.InboxEnd.take_with.Goals as goal

pub returns-clause-after : goal.returns-clause-after
returns-clause-after g c = search rules
