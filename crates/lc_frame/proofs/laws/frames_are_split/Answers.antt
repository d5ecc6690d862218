use Rattle.lc_frame.proofs.Fronts.{bytes_from}
use Rattle.lc_frame.proofs.Frames.{computed_split}
use Rattle.lc_frame.proofs.laws.frames_are_split.Goals as goal

pub returns : goal.returns
returns c = λ h all. computed_split h (bytes_from h.bytes all)
