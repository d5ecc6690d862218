use Rattle.std.proofs.Common.{rules}
use Rattle.lc_book.proofs.fault.Violation.number.Goals as goal

pub returns-in-TotalPassed : goal.returns-in-TotalPassed
returns-in-TotalPassed c = search rules
