use Rattle.lc_mux.proofs.Continued as lemmas
use Rattle.lc_mux.proofs.laws.notices_continue.Goals as goal

pub returns : goal.returns
returns c = lemmas.notices_continue
