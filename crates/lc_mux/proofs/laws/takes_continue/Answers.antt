use Rattle.lc_mux.proofs.Continued as lemmas
use Rattle.lc_mux.proofs.laws.takes_continue.Goals as goal

pub returns : goal.returns
returns c = lemmas.takes_continue
