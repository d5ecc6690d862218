use Rattle.lc_world.proofs.New.{no_bad_slots}
use Rattle.lc_world.proofs.endpoint.new_peer.Goals as goal

pub unreachable-requires : goal.unreachable-requires
unreachable-requires c = no_bad_slots c.args.version c.args.capacity c.in-Err-BadSlots.field-0-0 (rw c.in-Err-BadSlots.field-0-is at c.in-Err-BadSlots.ensures.answer)
