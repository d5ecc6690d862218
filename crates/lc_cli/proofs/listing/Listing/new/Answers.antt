use Rattle.std.proofs.Common.{None, subst, sym}
use Rattle.lc_frame.specs.Stored.{IsUndecided}
use Rattle.lc_frame.proofs.Stored.{nothing_in}
use Rattle.lc_cli.proofs.listing.Listing.new.Goals as goal

pub returns-clause-open : goal.returns-clause-open
returns-clause-open c = subst IsUndecided (sym c.in_ok-new.ensures) (nothing_in None)
