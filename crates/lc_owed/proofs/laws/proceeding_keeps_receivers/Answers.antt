use Rattle.lc_owed.proofs.Standing as lemmas
use Rattle.lc_owed.proofs.laws.proceeding_keeps_receivers.Goals as goal

pub returns : goal.returns
returns c = lemmas.proceeding_keeps_receivers
