use Rattle.std.proofs.Common.{sym, subst}
use Rattle.lc_frame.specs.Stored.{IsUndecided}
use Rattle.lc_frame.proofs.Stored.{part_undecided}
use Rattle.lc_frame.proofs.Openings.{nothing_is_part}
use Rattle.lc_peer.proofs.intake.Intake.new.Goals as goal

pub invariant_of-result : goal.invariant_of-result
invariant_of-result c = λ going. subst IsUndecided (sym c.in_ok-new.ensures) (part_undecided _ nothing_is_part)
