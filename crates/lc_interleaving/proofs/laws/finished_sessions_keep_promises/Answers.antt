use Rattle.lc_interleaving.proofs.Sessions.{finished_sessions_keep_promises as law}
use Rattle.lc_interleaving.proofs.laws.finished_sessions_keep_promises.Goals as goal

pub returns : goal.returns
returns c = law
