use Rattle.lc_inbox.proofs.Histories.{in_order}
use Rattle.lc_inbox.proofs.laws.messages_are_taken_in_order.Goals as goal

pub returns : goal.returns
returns c = in_order
