use Rattle.std.proofs.Common.{rules}
use Rattle.lc_cli.proofs.fault.Fault.status.Goals as goal

pub returns-in-OutOfMemory : goal.returns-in-OutOfMemory
returns-in-OutOfMemory c = search rules
