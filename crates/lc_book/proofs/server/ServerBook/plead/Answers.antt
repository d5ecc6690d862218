use Rattle.std.proofs.Common.{rules}
use Rattle.lc_book.proofs.server.ServerBook.plead.Goals as goal

pub returns-clause-answer : goal.returns-clause-answer
returns-clause-answer c = search rules

pub returns-clause-small : goal.returns-clause-small
returns-clause-small c = search rules
