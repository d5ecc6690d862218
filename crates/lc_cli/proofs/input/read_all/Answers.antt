use Rattle.std.proofs.Common.{rules}
use Rattle.lc_cli.proofs.input.read_all.Goals as goal

pub loop-bytes-smaller : goal.loop-bytes-smaller
loop-bytes-smaller g c = search rules
