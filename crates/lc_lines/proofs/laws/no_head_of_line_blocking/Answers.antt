use Rattle.lc_lines.proofs.Blocking as lemmas
use Rattle.lc_lines.proofs.laws.no_head_of_line_blocking.Goals as goal

pub returns : goal.returns
returns c = lemmas.no_head_of_line_blocking
