use Rattle.std.proofs.Common.{rules}
use Rattle.lc_book.proofs.client.ClientBook.restore.Goals as goal

pub returns-then-received-gt-MAX_TOTAL-clause-valid : goal.returns-then-received-gt-MAX_TOTAL-clause-valid
returns-then-received-gt-MAX_TOTAL-clause-valid c = search rules
