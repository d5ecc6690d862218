use Rattle.std.proofs.Common.{rules}
use Rattle.lc_session.proofs.report.pop_all.Goals as goal

pub returns-in-None : goal.returns-in-None
returns-in-None g c = search rules
