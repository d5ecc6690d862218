use Rattle.std.proofs.Common.{rules}
use Rattle.lc_book.proofs.client.ClientBook.received.Goals as goal

pub returns-clause-value : goal.returns-clause-value
returns-clause-value c = search rules
