use Rattle.std.proofs.Common.{rules}
use Rattle.lc_book.proofs.server.ServerBook.sending_limited.Goals as goal

pub returns-2-clause-answer : goal.returns-2-clause-answer
returns-2-clause-answer c = search rules
