use Rattle.lc_book.proofs.SumsKept.{every_honour_keeps_sums}
use Rattle.lc_book.proofs.laws.honours_keep_sums.Goals as goal

pub returns : goal.returns
returns c = every_honour_keeps_sums
