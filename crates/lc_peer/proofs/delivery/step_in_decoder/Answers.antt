use Rattle.std.proofs.Common.{length, refl, subst, arith}
use Rattle.lc_frame.specs.Stored.{Stored}
use Rattle.lc_peer.specs.declared.delivery.Step.TheVariants.{Open}
use Rattle.lc_peer.specs.Steps.{Steps}
use Rattle.lc_peer.proofs.Kept.{step_keeps}
use Rattle.lc_peer.proofs.delivery.step_in_decoder.Goals as goal

pub returns-then-take_part-clause-kept : goal.returns-then-take_part-clause-kept
returns-then-take_part-clause-kept g c = λ rings fits few.
    let took = c.take_part.ensures.took c.if-take_part.true in
    step_keeps rings c.args.decoder.now c.args.piece.now fits few c.stored-stored.ensures.settled c.stored-stored.ensures.bytes (λ i. omega (arith, c.type_inv.piece i)) g.S.FrameSink.arrived g.S.FrameSink.violated (Open (length c.args.piece.now)) c.args.sink.now c.args.sink.now c.take_part.new.self (record { same = refl; all = refl; grown = took; undecided = c.take_part.ensures.undecided c.if-take_part.true })

pub returns-clause-kept : goal.returns-clause-kept
returns-clause-kept g c = λ rings fits few.
    let same = c.take_part.ensures.other c.if-take_part.false in
    step_keeps rings c.args.decoder.now c.args.piece.now fits few c.stored-stored.ensures.settled c.stored-stored.ensures.bytes (λ i. omega (arith, c.type_inv.piece i)) g.S.FrameSink.arrived g.S.FrameSink.violated c.complete.result c.args.sink.now c.complete.new.sink c.complete.new.decoder (subst (λ (h : Stored). Steps g.S.FrameSink.arrived g.S.FrameSink.violated c.complete.result c.args.sink.now h c.args.piece.now c.complete.new.sink c.complete.new.decoder) same c.complete.ensures)
