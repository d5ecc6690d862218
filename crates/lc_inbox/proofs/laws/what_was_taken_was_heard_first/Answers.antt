use Rattle.lc_inbox.proofs.Order.{took_the_first}
use Rattle.lc_inbox.proofs.laws.what_was_taken_was_heard_first.Goals as goal

pub returns : goal.returns
returns c = took_the_first
