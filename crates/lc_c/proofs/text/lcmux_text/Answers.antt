use Rattle.std.proofs.Common.{rules}
use Rattle.lc_c.proofs.text.lcmux_text.Goals as goal

pub returns-in-Some-clause-answer : goal.returns-in-Some-clause-answer
returns-in-Some-clause-answer c = search rules
