use Rattle.std.proofs.Common.{rules}
use Rattle.lc_book.proofs.server.ServerBook.limit_receiving.Goals as goal

pub returns-clause-answer : goal.returns-clause-answer
returns-clause-answer c = search rules
