use Rattle.std.proofs.Common.{◌+◌}
use Rattle.lc_frame.specs.Lane.{lane_count}
use Rattle.lc_queue.proofs.opening.lanes.Given as goal

abbrev pub ghosts-new : goal.ghosts-new
ghosts-new a = record { terms = record { slots = a.slots + lane_count; version = a.version } }
