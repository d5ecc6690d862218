use Rattle.std.proofs.Common.{ℕ, get_or, subst, sym, arith}
use Rattle.lc_frame.specs.declared.version.Version.TheVariants.{Two}
use Rattle.lc_frame.specs.Version.{greeting}
use Rattle.lc_frame.specs.Progress.{IsDue}
use Rattle.lc_frame.proofs.Openings.{part_short, due_after}
use Rattle.lc_frame.proofs.greeting.due_after.Goals as goal

pub bounds-len : goal.bounds-len
bounds-len c = let short = part_short _ c.requires in omega (arith, short)

pub returns : goal.returns
returns c = subst (λ (n : ℕ). IsDue (get_or (greeting Two) n 0) c.args.part.now) (sym c.len.ensures) (due_after _ c.requires)
