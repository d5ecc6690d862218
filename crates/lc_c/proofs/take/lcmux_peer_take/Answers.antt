use Rattle.std.proofs.Common.{rules, sym}
use Rattle.lc_c.proofs.Barred.{given_barred}
use Rattle.lc_c.proofs.take.lcmux_peer_take.Goals as goal

pub returns-in-Barred-clause-buffer : goal.returns-in-Barred-clause-buffer
returns-in-Barred-clause-buffer c = sym (given_barred _ _ _ _ c.in-Barred.ensures.barred)

pub returns-in-Ok-clause-answer : goal.returns-in-Ok-clause-answer
returns-in-Ok-clause-answer c = search rules
