use Rattle.lc_lines.proofs.Blocking as lemmas
use Rattle.lc_lines.proofs.laws.first_calls_wait_for_bytes.Goals as goal

pub returns : goal.returns
returns c = lemmas.first_calls_wait_for_bytes
