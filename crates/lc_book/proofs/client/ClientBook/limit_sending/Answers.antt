use Rattle.std.proofs.Common.{rules}
use Rattle.lc_book.proofs.client.ClientBook.limit_sending.Goals as goal

pub returns-clause-answer : goal.returns-clause-answer
returns-clause-answer c = search rules
