use Rattle.lc_mux.proofs.Continued as lemmas
use Rattle.lc_mux.proofs.laws.new_sessions_continue.Goals as goal

pub returns : goal.returns
returns c = lemmas.new_sessions_continue
