use Rattle.std.proofs.Common.{◌≤◌, subst, sym}
use Rattle.std.specs.Prelude.{ℕ}
use Rattle.lc_lines.proofs.lines.Lines.take_into.Goals as goal

pub invariant_of-self-2 : goal.invariant_of-self-2
invariant_of-self-2 c = record { some = subst (λ (n : ℕ). 1 ≤ n) (sym c.settle.ensures.entries) c.self.invariant.some; settled = c.settle.ensures.settled }
