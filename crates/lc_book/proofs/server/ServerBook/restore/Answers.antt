use Rattle.std.proofs.Common.{rules}
use Rattle.lc_book.proofs.server.ServerBook.restore.Goals as goal

pub returns-then-arrived-issued-clause-valid : goal.returns-then-arrived-issued-clause-valid
returns-then-arrived-issued-clause-valid c = search rules
