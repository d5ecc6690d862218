use Rattle.lc_owed.proofs.Standing as lemmas
use Rattle.lc_owed.proofs.laws.pending_calls_stay_acceptable.Goals as goal

pub returns : goal.returns
returns c = lemmas.pending_calls_stay_acceptable
