use Rattle.std.proofs.Common.{List}
use Rattle.lc_owed.specs.declared.due.Due.{Due}
use Rattle.lc_owed.specs.Flush.{Went}
use Rattle.lc_owed.proofs.First.{weight}
use Rattle.lc_owed.proofs.owed.Owed.put_all.Given as goal

-- these were put or dropped so far
abbrev pub invariant-frames : goal.invariant-frames
invariant-frames l = (went : List Due) × Went went l.fn.self l.fn.lines l.self l.lines

-- how much is pending
abbrev pub decreases-frames : goal.decreases-frames
decreases-frames l = weight l.self.pending
