use Rattle.lc_frame.proofs.SplitLaws.{split_law}
use Rattle.lc_frame.proofs.laws.one_split.Goals as goal

pub returns : goal.returns
returns c = split_law
