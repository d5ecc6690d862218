use Rattle.std.proofs.Common.{rules}
use Rattle.lc_world.proofs.world.World.client.Goals as goal

pub returns-in-A : goal.returns-in-A
returns-in-A c = search rules
