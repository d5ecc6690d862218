use Rattle.std.proofs.Common.{◌≡◌, ◌-◌, length}
use Rattle.lc_lines.specs.Lines.{Runs}
use Rattle.lc_lines.proofs.lines.settle.Given as goal

-- calls proceeded so far, and their tickets are noticed
abbrev pub invariant-steps : goal.invariant-steps
invariant-steps l = Runs l.fn.scheduler l.fn.notices.items l.scheduler l.notices.items × (l.notices.capacity ≡ l.fn.notices.capacity)

-- how many entries are free
abbrev pub decreases-steps : goal.decreases-steps
decreases-steps l = l.notices.capacity - length l.notices.items
