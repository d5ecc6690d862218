use Rattle.std.proofs.Common.{rules, ap, sym, ◌∙◌}
use Rattle.lc_peer.specs.Intake.{IntakeState}
use Rattle.lc_session.proofs.Begun.{new_session, sides_in_place, rings_in_place}
use Rattle.lc_session.proofs.session.make.Goals as goal

pub put_together-requires-clause-incoming : goal.put_together-requires-clause-incoming
put_together-requires-clause-incoming c = (sides_in_place _ _ _ _ _ _ c.in-Ok.ensures.ends c.in-Ok-share_all.ensures.new).reading

pub put_together-requires-clause-rings : goal.put_together-requires-clause-rings
put_together-requires-clause-rings c = rings_in_place _ _ _ _ _ _ c.requires.rings c.in-Ok.ensures.ends c.in-Ok-share_all.ensures.new ∙ ap (λ (i : IntakeState). i.rings) (sym c.in_ok-intake.ensures)

pub returns : goal.returns
returns c =
    let all = c.put_together.ensures in
    new_session c.args.config _ c.in-Ok.lanes.drain c.in-Ok.lanes.ends c.in-Ok-share_all.inboxes.clients _ _ _ _ _ all.sending all.receiving all.reading all.writing c.in-Ok.ensures.drain c.in-Ok.ensures.ends c.in-Ok-share_all.ensures.clients (search rules) c.in_ok-credits.ensures.new c.in_ok-credits.ensures.matched c.in-Ok-share_all.ensures.new c.in-Ok-share_all.ensures.matched c.in_ok-intake.ensures c.in-Ok.ensures.slots c.requires.lawful
