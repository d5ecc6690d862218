use Rattle.lc_session.proofs.Heard.{runs_heard}
use Rattle.lc_session.proofs.laws.runs_are_heard.Goals as goal

pub returns : goal.returns
returns c = runs_heard
