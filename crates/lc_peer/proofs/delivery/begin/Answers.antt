use Rattle.std.proofs.Common.{arith}
use Rattle.lc_peer.proofs.Deliveries.{begins_so, nothing_led, fed_bytes}
use Rattle.lc_peer.proofs.Starts.{steps_within, start_begins}
use Rattle.lc_peer.proofs.delivery.begin.Goals as goal

pub returns-then-is_between : goal.returns-then-is_between
returns-then-is_between g c = (begins_so g.S.FrameSink.arrived c.args.sink.now c.args.decoder.now c.args.piece.now c.args.decoder.now 0 (nothing_led c.args.decoder.now c.args.piece.now c.stored-stored.ensures.settled), c.is_between.ensures.yes c.if-is_between.true)

pub start_by-requires : goal.start_by-requires
start_by-requires g c = omega (arith, steps_within g.S.FrameSink.arrived g.S.FrameSink.violated c.in-Some.step c.args.sink.now c.args.decoder.now c.args.piece.now c.step_in_few.new.sink c.step_in_few.new.decoder c.in-Some.ensures.steps)

pub returns-in-Some : goal.returns-in-Some
returns-in-Some g c =
    let fits = fed_bytes c.args.decoder.now c.args.piece.now c.stored-stored.ensures.bytes (λ i. omega (arith, c.type_inv.piece i)) in
    let here = begins_so g.S.FrameSink.arrived c.args.sink.now c.args.decoder.now c.args.piece.now c.args.decoder.now 0 (nothing_led c.args.decoder.now c.args.piece.now c.stored-stored.ensures.settled) in
    start_begins g.S.FrameSink.arrived g.S.FrameSink.violated c.args.rings.now c.args.most c.args.sink.now c.args.decoder.now c.args.piece.now c.args.sink.now c.args.decoder.now 0 here fits c.step_in_few.new.sink c.step_in_few.new.decoder (c.in-Some.ensures.kept c.args.rings.now) c.in-Some.step c.start_by.result c.in-Some.ensures.steps c.start_by.ensures
