use Rattle.std.proofs.Common.{rules}
use Rattle.lc_book.proofs.server.ServerBook.note_taken.Goals as goal

pub invariant_of-self : goal.invariant_of-self
invariant_of-self c = search rules

pub returns-clause-after : goal.returns-clause-after
returns-clause-after c = search rules
