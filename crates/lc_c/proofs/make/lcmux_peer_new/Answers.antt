use Rattle.std.proofs.Common.{rules}
use Rattle.lc_c.proofs.make.lcmux_peer_new.Goals as goal

pub returns-in-Ok-clause-answer : goal.returns-in-Ok-clause-answer
returns-in-Ok-clause-answer c = search rules
