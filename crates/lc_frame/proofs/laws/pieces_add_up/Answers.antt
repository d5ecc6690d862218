use Rattle.lc_frame.proofs.Stored.{fed_fed}
use Rattle.lc_frame.proofs.laws.pieces_add_up.Goals as goal

pub returns : goal.returns
returns c = fed_fed
