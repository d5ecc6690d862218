use Rattle.lc_frame.proofs.Frames.{joined_law}
use Rattle.lc_frame.proofs.laws.joined_frames_come_first.Goals as goal

pub returns-clause-frames : goal.returns-clause-frames
returns-clause-frames c = λ fs more each. (joined_law fs more each).0

pub returns-clause-rest : goal.returns-clause-rest
returns-clause-rest c = λ fs more each. (joined_law fs more each).1
