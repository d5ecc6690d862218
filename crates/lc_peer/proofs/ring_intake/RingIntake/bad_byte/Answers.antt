use Rattle.std.proofs.Common.{◌≡◌, Option, sym, ap, subst, ◌∙◌}
use Rattle.std.specs.Prelude.{IfSome}
use Rattle.lc_frame.specs.declared.frame_fault.FrameFault.TheVariants.{BadTag}
use Rattle.lc_frame.specs.Stored.{HasFault}
use Rattle.lc_peer.specs.declared.skip.Skip.{Skip}
use Rattle.lc_peer.specs.Intake.{IntakeState}
use Rattle.lc_peer.specs.RingIntake.{IsSkip, held_of, held_with}
use Rattle.lc_peer.proofs.Offending.{skip_no_fault}
use Rattle.lc_peer.proofs.ring_intake.RingIntake.bad_byte.Goals as goal

pub returns-in-Some-clause-bad : goal.returns-in-Some-clause-bad
returns-in-Some-clause-bad c = λ bad.
    let skip = c.in-Some.field-0 in
    let held : c.args.self.now.held ≡ held_of skip = ap (λ (i : IntakeState). i.held) (sym c.self.view_is) ∙ ap (λ (o : Option Skip). held_with c.self.inside.decoder o) c.in-Some.is in
    let is_skip = subst (λ (o : Option Skip). IfSome o (IsSkip c.self.inside.rings)) c.in-Some.is c.self.invariant.skips in
    absurd (skip_no_fault skip BadTag is_skip.in_range (subst (HasFault BadTag) held bad))
