use Rattle.lc_frame.proofs.Fronts.{valid_in_two}
use Rattle.lc_frame.proofs.laws.one_is_in_two.Goals as goal

pub returns : goal.returns
returns c = valid_in_two
