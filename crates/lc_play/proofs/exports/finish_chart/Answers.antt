use Rattle.lc_play.proofs.Handed.{handed_short}
use Rattle.lc_play.proofs.exports.finish_chart.Goals as goal

pub returns : goal.returns
returns c = record { short = handed_short _ _ _ _ _ _ c.hand_out.ensures }
