use Rattle.std.proofs.Common.{rules}
use Rattle.lc_book.proofs.client.ClientBook.receiving_limited.Goals as goal

pub returns-2-clause-answer : goal.returns-2-clause-answer
returns-2-clause-answer c = search rules
