use Rattle.lc_inbox.specs.Lends.{first_taken}
use Rattle.lc_inbox.proofs.inbox_out.give_first.Given as goal

abbrev pub ghosts-give : goal.ghosts-give
ghosts-give a = record { entries = first_taken a._told.now.value }
