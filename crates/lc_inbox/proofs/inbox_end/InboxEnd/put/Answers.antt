use Rattle.std.proofs.Common.{rules}
use Rattle.lc_inbox.proofs.Ends.{put_parts}
use Rattle.lc_inbox.proofs.inbox_end.InboxEnd.put.Goals as goal

pub invariant_of-self : goal.invariant_of-self
invariant_of-self g c = put_parts _ _ _ _ _ _ c.self.view_is c.self.invariant c.requires.lane.1 c.in_ok-book.ensures.book c.adopt.ensures c.in-Ok.ensures.after

pub returns-clause-ok : goal.returns-clause-ok
returns-clause-ok g c = search rules
