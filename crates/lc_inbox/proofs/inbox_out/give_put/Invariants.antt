use Rattle.std.proofs.Common.{[], ◌∷◌}
use Rattle.lc_inbox.specs.declared.history.Entry.TheVariants.{Put}
use Rattle.lc_inbox.proofs.inbox_out.give_put.Given as goal

abbrev pub ghosts-give : goal.ghosts-give
ghosts-give a = record { entries = Put a._told.now.value ∷ [] }
