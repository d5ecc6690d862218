use Rattle.std.proofs.Common.{rules}
use Rattle.lc_world.proofs.world.World.server.Goals as goal

pub returns-in-B : goal.returns-in-B
returns-in-B c = search rules
