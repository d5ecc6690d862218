use Rattle.std.proofs.Common.{rules}
use Rattle.lc_book.proofs.server.ServerBook.finished.Goals as goal

pub returns-clause-after : goal.returns-clause-after
returns-clause-after c = search rules
