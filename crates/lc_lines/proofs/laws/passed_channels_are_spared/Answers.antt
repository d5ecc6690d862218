use Rattle.lc_lines.proofs.Passed as lemmas
use Rattle.lc_lines.proofs.laws.passed_channels_are_spared.Goals as goal

pub returns : goal.returns
returns c = lemmas.passed_channels_are_spared
