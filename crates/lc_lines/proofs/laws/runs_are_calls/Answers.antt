use Rattle.lc_lines.proofs.Accepted as lemmas
use Rattle.lc_lines.proofs.laws.runs_are_calls.Goals as goal

pub returns : goal.returns
returns c = lemmas.runs_are_calls
