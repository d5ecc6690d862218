use Rattle.std.proofs.Common.{rules}
use Rattle.lc_book.proofs.client.ClientBook.new.Goals as goal

pub returns : goal.returns
returns c = search rules
