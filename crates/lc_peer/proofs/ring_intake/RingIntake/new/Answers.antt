use Rattle.std.proofs.Common.{sym, ap, subst}
use Rattle.lc_frame.specs.Stored.{Stored, IsUndecided}
use Rattle.lc_frame.proofs.Stored.{part_undecided}
use Rattle.lc_frame.proofs.Openings.{nothing_is_part}
use Rattle.lc_peer.proofs.Kept.{nothing_kept}
use Rattle.lc_peer.proofs.ring_intake.RingIntake.new.Goals as goal

pub invariant_of-result : goal.invariant_of-result
invariant_of-result c = record { undecided = λ going. subst IsUndecided (sym c.in_ok-new.ensures) (part_undecided _ nothing_is_part); skips = tt; missing = λ going. tt; kept = nothing_kept _ _ (ap (λ (h : Stored). h.bytes) c.in_ok-new.ensures) }
