use Rattle.std.proofs.Common.{arith}
use Rattle.lc_cli.proofs.Scripts.{channel_digit}
use Rattle.lc_cli.proofs.script.channel_of.Goals as goal

pub returns-in-48-to-57 : goal.returns-in-48-to-57
returns-in-48-to-57 c = channel_digit _ _ (omega arith) (omega arith) (omega arith) c.from_number.ensures.inverse
