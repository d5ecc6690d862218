use Rattle.std.proofs.Common.{rules}
use Rattle.lc_frame.proofs.frame.Frame.view.Goals as goal

pub returns-in-Absolve : goal.returns-in-Absolve
returns-in-Absolve c = search rules
