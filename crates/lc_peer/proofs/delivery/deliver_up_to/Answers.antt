use Rattle.std.proofs.Common.{◌≡◌, ◌∙◌, ℕ, ◌+◌, ◌≤◌, List, [], length, drop, subst, sym, ap, arith, Option}
use Rattle.std.proofs.lemmas.List.{length-drop}
use Rattle.lc_frame.specs.declared.version.Version.{Version}
use Rattle.lc_frame.specs.Stored.{Stored, stored_in}
use Rattle.lc_peer.proofs.Begun.{some_version}
use Rattle.lc_peer.specs.declared.delivery.Start.{Start}
use Rattle.lc_peer.specs.declared.delivery.Step.{Step}
use Rattle.lc_peer.specs.declared.delivery.Step.TheVariants.{Arrived, Stopped}
use Rattle.lc_peer.specs.declared.delivery.Stop.{Stop}
use Rattle.lc_peer.specs.Deliveries.{DeliversTo}
use Rattle.lc_peer.specs.Rings.{BeginsBy}
use Rattle.lc_peer.specs.Steps.{Steps, FrameArrives, StaysOpen}
use Rattle.lc_peer.proofs.Deliveries.{took_some, one_more, ends_open, ends_whole, ends_stopped, fed_bytes}
use Rattle.lc_peer.proofs.Kept.{arrived_in}
use Rattle.lc_peer.proofs.delivery.deliver_up_to.Goals.{in-Arrived-2, in-Open, in-Stopped}
use Rattle.lc_peer.proofs.delivery.deliver_up_to.Goals as goal

arrived_is : {m n : ℕ} → Arrived m ≡ Arrived n → m ≡ n
arrived_is e = cc

pub frames-init : goal.frames-init
frames-init g c =
    let goes = subst (λ (s : Start). BeginsBy s g.S.FrameSink.arrived g.S.FrameSink.violated c.args.rings.now c.args.most c.args.sink.now c.args.decoder.now c.args.piece.now c.begin.new.sink c.begin.new.decoder) c.in-GoesOn.is c.begin.ensures in
    let same = some_version (sym (ap (λ (h : Stored). h.version) goes.1.1) ∙ sym c.version.ensures ∙ c.in-Some.is) in
    (goes.0, goes.1.1 ∙ ap (λ (v : Version). stored_in v []) same)

pub frames-smaller : goal.frames-smaller
frames-smaller g c =
    let step = subst (λ (s : Step). Steps g.S.FrameSink.arrived g.S.FrameSink.violated s c.frames.sink c.frames.decoder c.split_at.result.1.now c.step_or_find.new.sink c.step_or_find.new.decoder) c.in-Arrived.is c.in-Ok.ensures.steps in
    let a = subst (λ (xs : List ℕ). FrameArrives g.S.FrameSink.arrived c.frames.sink c.frames.decoder xs c.step_or_find.new.sink c.step_or_find.new.decoder c.in-Arrived.count) c.split_at.ensures.back step in
    let some = took_some g.S.FrameSink.arrived c.frames.sink c.frames.decoder (drop c.frames.taken c.args.piece.now) c.step_or_find.new.sink c.step_or_find.new.decoder c.in-Arrived.count a in
    omega (arith, some, ap length a.cleared, a.within, length-drop c.frames.taken c.args.piece.now, c.frames.invariant.0.within)

pub frames-preserved : goal.frames-preserved
frames-preserved g c =
    let step = subst (λ (s : Step). Steps g.S.FrameSink.arrived g.S.FrameSink.violated s c.frames.sink c.frames.decoder c.split_at.result.1.now c.step_or_find.new.sink c.step_or_find.new.decoder) c.in-Arrived.is c.in-Ok.ensures.steps in
    let a = subst (λ (xs : List ℕ). FrameArrives g.S.FrameSink.arrived c.frames.sink c.frames.decoder xs c.step_or_find.new.sink c.step_or_find.new.decoder c.in-Arrived.count) c.split_at.ensures.back step in (
      one_more g.S.FrameSink.arrived c.args.sink.now c.args.decoder.now c.args.piece.now c.frames.sink c.frames.decoder c.frames.taken c.frames.frames c.step_or_find.new.sink c.step_or_find.new.decoder c.in-Arrived.count c.frames.invariant.0 a (omega (arith, a.within, length-drop c.frames.taken c.args.piece.now)),
      arrived_in g.S.FrameSink.arrived c.in-Some.version _ _ _ _ _ _ c.frames.invariant.1 a,
    )

pub returns-in-frames-clause-reaches : goal.returns-in-frames-clause-reaches
returns-in-frames-clause-reaches g c =
    let fits = fed_bytes c.args.decoder.now c.args.piece.now c.stored-stored.ensures.bytes (λ i. omega (arith, c.type_inv.piece i)) in
    let Does : Step → Type 0 = λ s. Steps g.S.FrameSink.arrived g.S.FrameSink.violated s c.frames.sink c.frames.decoder c.split_at.result.1.now c.step_or_find.new.sink c.step_or_find.new.decoder in
    let Ends : (ℕ × Option Stop) × ℕ → Type 0 = λ p. DeliversTo g.S.FrameSink.arrived g.S.FrameSink.violated c.args.sink.now c.args.decoder.now c.args.piece.now c.step_or_find.new.sink c.step_or_find.new.decoder (record { taken = c.frames.taken + p.0.0; frames = p.1; stop = p.0.1 }) in
    elim c.match-step.branch [
      | in-Arrived-2 w ↦
          let a = subst (λ (xs : List ℕ). FrameArrives g.S.FrameSink.arrived c.frames.sink c.frames.decoder xs c.step_or_find.new.sink c.step_or_find.new.decoder w.in-Arrived-2.count) c.split_at.ensures.back (subst Does w.in-Arrived-2.is c.in-Ok.ensures.steps) in
          let within : c.frames.taken + w.in-Arrived-2.count ≤ length c.args.piece.now = omega (arith, a.within, length-drop c.frames.taken c.args.piece.now, c.frames.invariant.0.within) in
          let soFar = one_more g.S.FrameSink.arrived c.args.sink.now c.args.decoder.now c.args.piece.now c.frames.sink c.frames.decoder c.frames.taken c.frames.frames c.step_or_find.new.sink c.step_or_find.new.decoder w.in-Arrived-2.count c.frames.invariant.0 a (omega (arith, a.within, length-drop c.frames.taken c.args.piece.now)) in
          subst Ends (λ i. (sym w.count-is i, sym w.frames-is i)) (ends_whole g.S.FrameSink.arrived g.S.FrameSink.violated c.args.sink.now c.args.decoder.now c.args.piece.now c.step_or_find.new.sink c.step_or_find.new.decoder (c.frames.taken + w.in-Arrived-2.count) (c.frames.frames + 1) soFar a.frame a.valid a.cleared (omega (arith, w.if-taken-count.false, within, arrived_is (sym w.in-Arrived.is ∙ w.in-Arrived-2.is))) fits)
      | in-Open w ↦
          let o = subst (λ (xs : List ℕ). StaysOpen c.frames.sink c.frames.decoder xs c.step_or_find.new.sink c.step_or_find.new.decoder w.in-Open.count) c.split_at.ensures.back (subst Does w.in-Open.is c.in-Ok.ensures.steps) in
          subst Ends (λ i. (sym w.count-is i, sym w.frames-is i)) (ends_open g.S.FrameSink.arrived g.S.FrameSink.violated c.args.sink.now c.args.decoder.now c.args.piece.now c.frames.sink c.frames.decoder c.frames.taken c.frames.frames c.frames.invariant.0 c.step_or_find.new.sink c.step_or_find.new.decoder w.in-Open.count fits o)
      | in-Stopped w ↦
          let o = subst (λ (xs : List ℕ). Steps g.S.FrameSink.arrived g.S.FrameSink.violated (Stopped w.in-Stopped.stop w.in-Stopped.count) c.frames.sink c.frames.decoder xs c.step_or_find.new.sink c.step_or_find.new.decoder) c.split_at.ensures.back (subst Does w.in-Stopped.is c.in-Ok.ensures.steps) in
          subst Ends (λ i. (sym w.count-is i, sym w.frames-is i)) (ends_stopped g.S.FrameSink.arrived g.S.FrameSink.violated c.args.sink.now c.args.decoder.now c.args.piece.now c.frames.sink c.frames.decoder c.frames.taken c.frames.frames c.frames.invariant.0 w.in-Stopped.stop c.step_or_find.new.sink c.step_or_find.new.decoder w.in-Stopped.count fits o)
    ]

pub returns-in-frames-clause-kept : goal.returns-in-frames-clause-kept
returns-in-frames-clause-kept g c = λ any kept. c.in-Ok.ensures.kept any

pub returns-in-Ended-clause-reaches : goal.returns-in-Ended-clause-reaches
returns-in-Ended-clause-reaches g c = (subst (λ (s : Start). BeginsBy s g.S.FrameSink.arrived g.S.FrameSink.violated c.args.rings.now c.args.most c.args.sink.now c.args.decoder.now c.args.piece.now c.begin.new.sink c.begin.new.decoder) c.in-Ended.is c.begin.ensures).0

pub returns-in-Ended-clause-kept : goal.returns-in-Ended-clause-kept
returns-in-Ended-clause-kept g c = (subst (λ (s : Start). BeginsBy s g.S.FrameSink.arrived g.S.FrameSink.violated c.args.rings.now c.args.most c.args.sink.now c.args.decoder.now c.args.piece.now c.begin.new.sink c.begin.new.decoder) c.in-Ended.is c.begin.ensures).1
