use Rattle.std.proofs.Common.{[], ◌∷◌}
use Rattle.lc_frame.specs.declared.frame.Frame.TheVariants.{Send}
use Rattle.lc_inbox.specs.declared.history.Entry.TheVariants.{Refused}
use Rattle.lc_inbox.proofs.inbox_in.give_unkept.Given as goal

abbrev pub ghosts-give : goal.ghosts-give
ghosts-give a = record { entries = Refused (Send a._told.now.0 a._told.now.1.now.bytes) ∷ [] }
