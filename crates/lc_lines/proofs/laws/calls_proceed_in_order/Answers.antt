use Rattle.lc_lines.proofs.Order as lemmas
use Rattle.lc_lines.proofs.laws.calls_proceed_in_order.Goals as goal

pub returns : goal.returns
returns c = lemmas.calls_proceed_in_order
