use Rattle.std.proofs.Common.{◌≡◌, drop}
use Rattle.lc_owed.specs.Due.{due_among}
use Rattle.lc_owed.proofs.owed.Owed.due_among.Given as goal

-- nothing is due on the channels before this one
abbrev pub invariant-channels : goal.invariant-channels
invariant-channels l = due_among l.self l.lines.scheduler (drop l.at l.channels) ≡ due_among l.self l.lines.scheduler l.channels
