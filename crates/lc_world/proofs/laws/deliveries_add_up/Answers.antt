use Rattle.lc_world.proofs.Bytes.{deliveries_add}
use Rattle.lc_world.proofs.laws.deliveries_add_up.Goals as goal

pub returns : goal.returns
returns c = deliveries_add
