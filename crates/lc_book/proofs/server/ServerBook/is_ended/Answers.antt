use Rattle.std.proofs.Common.{rules}
use Rattle.lc_book.proofs.server.ServerBook.is_ended.Goals as goal

pub returns-in-Some-eq0 : goal.returns-in-Some-eq0
returns-in-Some-eq0 c = search rules
