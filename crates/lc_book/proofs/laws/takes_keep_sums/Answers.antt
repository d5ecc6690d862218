use Rattle.lc_book.proofs.TakesKept.{every_take_keeps_sums}
use Rattle.lc_book.proofs.laws.takes_keep_sums.Goals as goal

pub returns : goal.returns
returns c = every_take_keeps_sums
