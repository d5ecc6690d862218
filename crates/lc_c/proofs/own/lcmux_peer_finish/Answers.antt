use Rattle.std.proofs.Common.{rules}
use Rattle.lc_c.proofs.own.lcmux_peer_finish.Goals as goal

pub returns-in-At-clause-answer : goal.returns-in-At-clause-answer
returns-in-At-clause-answer c = search rules
