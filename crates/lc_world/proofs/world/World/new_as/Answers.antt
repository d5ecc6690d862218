use Rattle.lc_world.proofs.New.{new_in_step}
use Rattle.lc_world.proofs.world.World.new_as.Goals as goal

pub invariant_of-result : goal.invariant_of-result
invariant_of-result c = new_in_step _ _ c.args.capacity c.in_ok-a.a c.in_ok-b.b c.in_ok-a.ensures.made c.in_ok-a.ensures.value c.in_ok-b.ensures.value
