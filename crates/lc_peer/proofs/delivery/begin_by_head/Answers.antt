use Rattle.std.proofs.Common.{Option, List, ℕ, length, drop, sym, ap, subst, arith}
use Rattle.lc_frame.specs.Stored.{Stored, fed}
use Rattle.std.specs.Prelude.{IfSome, IfNone}
use Rattle.std.proofs.lemmas.List.{length-drop}
use Rattle.lc_peer.specs.declared.outgrown.Outgrown.{Outgrown}
use Rattle.lc_peer.specs.Longer.{FitsRings, KeepsFew}
use Rattle.lc_peer.specs.Rings.{StartsLonger, IsReady}
use Rattle.lc_peer.specs.Steps.{Steps}
use Rattle.lc_peer.proofs.Deliveries.{begins_so, fed_bytes}
use Rattle.lc_peer.proofs.Kept.{ready_fits}
use Rattle.lc_peer.proofs.Starts.{steps_within, start_begins}
use Rattle.lc_peer.proofs.delivery.begin_by_head.Goals as goal

pub returns-in-Some : goal.returns-in-Some
returns-in-Some g c = λ most.
    let starts = subst (λ (o : Option Outgrown). IfSome o (StartsLonger c.args.rings.now c.lead_up-taken.new.decoder (drop c.lead_up-taken.result.taken c.args.piece.now))) c.in-Some.is c.lead_up-taken.ensures.some in
    rw c.comes_to.ensures (
      record {
        so_far = begins_so g.S.FrameSink.arrived c.args.sink.now c.args.decoder.now c.args.piece.now c.lead_up-taken.new.decoder c.lead_up-taken.result.taken c.lead_up-taken.ensures.leads;
        starts = starts.0;
        longer = starts.1;
      },
      λ any kept. starts.0.few,
    )

pub returns-then-is_between : goal.returns-then-is_between
returns-then-is_between g c = λ most. (begins_so g.S.FrameSink.arrived c.args.sink.now c.args.decoder.now c.args.piece.now c.lead_up-taken.new.decoder c.lead_up-taken.result.taken c.lead_up-taken.ensures.leads, c.is_between.ensures.yes c.if-is_between.true)

pub start_by-requires : goal.start_by-requires
start_by-requires g c =
    let within = steps_within g.S.FrameSink.arrived g.S.FrameSink.violated c.step_in_decoder-step.result c.args.sink.now c.lead_up-taken.new.decoder c.split_at.result.1.now c.step_in_decoder-step.new.sink c.step_in_decoder-step.new.decoder c.step_in_decoder-step.ensures.steps in
    omega (arith, within, ap length c.split_at.ensures.back, length-drop c.lead_up-taken.result.taken c.args.piece.now, c.lead_up-taken.ensures.leads.within)

pub returns : goal.returns
returns g c = λ most.
    let rings : List ℕ = c.args.rings.now in
    let held : Stored = c.args.decoder.now in
    let piece : List ℕ = c.args.piece.now in
    let mid : Stored = c.lead_up-taken.new.decoder in
    let taken : ℕ = c.lead_up-taken.result.taken in
    let here = begins_so g.S.FrameSink.arrived c.args.sink.now held piece mid taken c.lead_up-taken.ensures.leads in
    let fits = fed_bytes held piece c.stored-stored.ensures.bytes (λ i. omega (arith, c.type_inv.piece i)) in
    let none = subst (λ (o : Option Outgrown). IfNone o (KeepsFew rings held → IsReady rings mid (drop taken piece))) c.in_default.is c.lead_up-taken.ensures.none in
    let steps = subst (λ (xs : List ℕ). Steps g.S.FrameSink.arrived g.S.FrameSink.violated c.step_in_decoder-step.result c.args.sink.now mid xs c.step_in_decoder-step.new.sink c.step_in_decoder-step.new.decoder) c.split_at.ensures.back c.step_in_decoder-step.ensures.steps in
    start_begins g.S.FrameSink.arrived g.S.FrameSink.violated rings most c.args.sink.now held piece c.args.sink.now mid taken here fits c.step_in_decoder-step.new.sink c.step_in_decoder-step.new.decoder
    (λ any kept. c.step_in_decoder-step.ensures.kept rings (subst (λ (xs : List ℕ). FitsRings rings (fed mid xs)) (sym c.split_at.ensures.back) (ready_fits rings mid (drop taken piece) (none kept) (c.is_between.ensures.no c.if-is_between.false))) (none kept).few)
    c.step_in_decoder-step.result c.start_by.result steps c.start_by.ensures
