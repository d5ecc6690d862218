use Rattle.std.proofs.Common.{rules}
use Rattle.lc_c.proofs.mux.make.lcmux_mux_free.Goals as goal

pub returns-in-Some-clause-empty : goal.returns-in-Some-clause-empty
returns-in-Some-clause-empty c = search rules
