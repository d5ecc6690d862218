use Rattle.lc_frame.proofs.Fronts.{prefix_law}
use Rattle.lc_frame.proofs.laws.no_frame_begins_another.Goals as goal

pub returns : goal.returns
returns c = prefix_law
