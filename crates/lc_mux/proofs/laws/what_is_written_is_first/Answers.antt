use Rattle.lc_mux.proofs.Continued as lemmas
use Rattle.lc_mux.proofs.laws.what_is_written_is_first.Goals as goal

pub returns : goal.returns
returns c = lemmas.what_is_written_is_first
