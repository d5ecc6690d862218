use Rattle.std.proofs.Common.{rules}
use Rattle.lc_c.proofs.mux.make.lcmux_mux_new.Goals as goal

pub returns-in-Ok-clause-answer : goal.returns-in-Ok-clause-answer
returns-in-Ok-clause-answer c = search rules
