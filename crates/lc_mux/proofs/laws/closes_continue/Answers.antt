use Rattle.lc_mux.proofs.Continued as lemmas
use Rattle.lc_mux.proofs.laws.closes_continue.Goals as goal

pub returns : goal.returns
returns c = lemmas.closes_continue
