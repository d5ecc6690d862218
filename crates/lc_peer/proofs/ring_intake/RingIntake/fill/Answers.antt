use Rattle.std.proofs.Common.{Option, sym, subst}
use Rattle.lc_peer.specs.declared.skip.Skip.{Skip}
use Rattle.lc_peer.specs.RingIntake.{IsRingIntake}
use Rattle.lc_peer.proofs.Intakes.{still_open}
use Rattle.lc_peer.proofs.ring_intake.RingIntake.fill.Goals as goal

pub invariant_of-self : goal.invariant_of-self
invariant_of-self g c =
    let old = subst (λ (s : Option Skip). IsRingIntake c.self.inside.decoder c.self.inside.rings s c.self.inside.stop) c.in-None.is c.self.invariant in
    subst (λ (s : Option Skip). IsRingIntake c.fill_begun.new.decoder c.self.inside.rings s c.self.inside.stop) (sym c.in-None.is) (record {
      undecided = still_open g.F.Fill.fills c.fill_begun.result _ _ c.self.inside.decoder c.fill_begun.new.decoder c.self.inside.stop c.fill_begun.ensures.held old.undecided;
      skips = tt;
      missing = λ going. tt;
      kept = c.fill_begun.ensures.kept c.self.inside.rings old.kept;
    })
