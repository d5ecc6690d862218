use Rattle.lc_book.proofs.SumsKept.{books_keep_sums}
use Rattle.lc_book.proofs.laws.books_keep_sums.Goals as goal

pub returns : goal.returns
returns c = books_keep_sums
