use Rattle.lc_play.proofs.Handed.{handed_short}
use Rattle.lc_play.proofs.text.lcmux_play_text.Goals as goal

pub returns-in-Some : goal.returns-in-Some
returns-in-Some c = record { short = handed_short _ _ _ _ _ _ c.hand_out.ensures }

pub returns-in-None : goal.returns-in-None
returns-in-None c = record { short = handed_short _ _ _ _ _ _ c.hand_out-in-None.ensures }
