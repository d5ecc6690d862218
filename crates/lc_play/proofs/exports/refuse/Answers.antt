use Rattle.std.proofs.Common.{arith}
use Rattle.lc_play.proofs.Handed.{handed, handed_short}
use Rattle.lc_play.proofs.exports.refuse.Goals as goal

pub returns-clause-status : goal.returns-clause-status
returns-clause-status c zeroes = omega (arith, (handed _ _ 0 _ _ _ _ c.hand_out.ensures (omega arith) zeroes).0)

pub returns-clause-short : goal.returns-clause-short
returns-clause-short c = handed_short _ _ _ _ _ _ c.hand_out.ensures
