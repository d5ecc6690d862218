use Rattle.std.proofs.Common.{rules}
use Rattle.lc_session.proofs.write_pump.join_popped.Goals as goal

pub returns-in-None-clause-pops : goal.returns-in-None-clause-pops
returns-in-None-clause-pops g c = search rules
