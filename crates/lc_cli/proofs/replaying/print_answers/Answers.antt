use Rattle.std.proofs.Common.{rules}
use Rattle.lc_cli.proofs.replaying.print_answers.Goals as goal

pub returns : goal.returns
returns g c = search rules
