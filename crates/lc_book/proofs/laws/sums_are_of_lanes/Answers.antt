use Rattle.lc_book.proofs.Lanes.{every_sum_is_of_its_lane}
use Rattle.lc_book.proofs.laws.sums_are_of_lanes.Goals as goal

pub returns : goal.returns
returns c = every_sum_is_of_its_lane
