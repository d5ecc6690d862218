use Rattle.std.proofs.Common.{rules, sym, subst, Some, None}
use Rattle.std.specs.Prelude.{Option}
use Rattle.lc_peer.specs.declared.delivery.Stop.{Stop}
use Rattle.lc_peer.specs.declared.delivery.Stop.TheVariants.{Fault}
use Rattle.lc_peer.specs.Intake.{IntakeState, EndsAfter, IntakeEnds}
use Rattle.lc_peer.proofs.Intakes.{ends_clean, ends_inside}
use Rattle.lc_peer.proofs.intake.Intake.end.Goals as goal

pub returns-in-Ok : goal.returns-in-Ok
returns-in-Ok c =
    let held = c.self.inside.decoder in
    let here = ends_clean held c.in-Ok.ensures (c.self.invariant c.in-None.is) in
    subst (λ (i : IntakeState). IntakeEnds None i) c.self.view_is (subst (λ (s : Option Stop). EndsAfter s None held) (sym c.in-None.is) here)

pub returns-in-Err : goal.returns-in-Err
returns-in-Err c =
    let held = c.self.inside.decoder in
    let end = Some (Fault c.in-Err.fault) in
    let here = ends_inside c.in-Err.fault held c.in-Err.ensures (c.self.invariant c.in-None.is) in
    subst (λ (i : IntakeState). IntakeEnds end i) c.self.view_is (subst (λ (s : Option Stop). EndsAfter s end held) (sym c.in-None.is) here)

pub returns-in-Some : goal.returns-in-Some
returns-in-Some c = search rules
