use Rattle.lc_lines.proofs.Fair as lemmas
use Rattle.lc_lines.proofs.laws.each_sends_once_meanwhile.Goals as goal

pub returns : goal.returns
returns c = lemmas.each_sends_once_meanwhile
