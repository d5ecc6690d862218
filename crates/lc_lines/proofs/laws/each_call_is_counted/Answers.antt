use Rattle.lc_lines.proofs.Fair as lemmas
use Rattle.lc_lines.proofs.laws.each_call_is_counted.Goals as goal

pub returns : goal.returns
returns c = lemmas.each_call_is_counted
