use Rattle.std.proofs.Common.{rules}
use Rattle.lc_book.proofs.server.ServerBook.buffered.Goals as goal

pub returns-clause-value : goal.returns-clause-value
returns-clause-value c = search rules

pub returns-clause-small : goal.returns-clause-small
returns-clause-small c = search rules

pub returns-clause-fits : goal.returns-clause-fits
returns-clause-fits c = search rules
