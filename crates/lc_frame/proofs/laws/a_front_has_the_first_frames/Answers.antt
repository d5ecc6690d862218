use Rattle.lc_frame.proofs.SplitLaws.{front_law}
use Rattle.lc_frame.proofs.laws.a_front_has_the_first_frames.Goals as goal

pub returns : goal.returns
returns c = front_law
