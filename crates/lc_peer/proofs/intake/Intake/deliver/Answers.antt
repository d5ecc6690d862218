use Rattle.std.proofs.Common.{arith, subst, ℕ, ◌<◌}
use Rattle.std.proofs.lemmas.List.{get_or_default}
use Rattle.lc_peer.proofs.intake.Intake.deliver.Goals as goal

pub returns-clause-bytes : goal.returns-clause-bytes
returns-clause-bytes g c = λ k d less. subst (λ (n : ℕ). n < 256) (get_or_default c.args.piece.now k 0 d less) (omega (arith, c.type_inv.piece k))
