use Rattle.lc_world.proofs.Drains.{nothing_wedges}
use Rattle.lc_world.proofs.laws.nothing_wedges.Goals as goal

pub returns : goal.returns
returns c = nothing_wedges
