use Rattle.std.proofs.Common.{rules}
use Rattle.lc_book.proofs.fault.Refusal.number.Goals as goal

pub returns-in-NotHeld : goal.returns-in-NotHeld
returns-in-NotHeld c = search rules
