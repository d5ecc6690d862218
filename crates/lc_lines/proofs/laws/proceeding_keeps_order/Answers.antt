use Rattle.lc_lines.proofs.Order as lemmas
use Rattle.lc_lines.proofs.laws.proceeding_keeps_order.Goals as goal

pub returns : goal.returns
returns c = lemmas.proceeding_keeps_order
