use Rattle.lc_owed.proofs.Dropped as lemmas
use Rattle.lc_owed.proofs.laws.only_finished_channels_drop.Goals as goal

pub returns : goal.returns
returns c = lemmas.only_finished_channels_drop
