-- What becomes of a half that lends the inbox which it has. It is this project's own.
use Rattle.std.specs.Prelude.{Option, Some, None}
use Rattle.std.specs.Borrow.{Lends, MutBor, Fml}
use Rattle.lc_inbox.specs.Ends.{Held}
use Rattle.lc_inbox.specs.History.{Loan}
use Rattle.lc_inbox.specs.Sides.{Half}
use Rattle.lc_inbox.specs.contracts.half.Half.{the_row as half}
use Rattle.lc_inbox.specs.contracts.inbox_end.InboxEnd.{the_row as inbox_end}

-- the loan, with this inbox in it
abbrev pub loan_with : Option Loan → Held → Option Loan
loan_with None w = None
loan_with (Some l) w = Some (record l { held = w })

-- the half, with this inbox in its loan
abbrev pub half_with : Half → Held → Half
half_with h w = record h { lent = loan_with h.lent w }

-- a half ends with what was left behind the inbox that it lent
abbrev pub LendsInbox : MutBor Half → MutBor Held → Fml
LendsInbox s r = Lends half inbox_end s r (half_with s.now)
