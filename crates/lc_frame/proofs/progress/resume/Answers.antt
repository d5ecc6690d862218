use Rattle.std.proofs.Common.{rules, ◌≡◌, ◌+◌, sym, length, ap, subst, length-drop, arith}
use Rattle.std.proofs.lemmas.Bool.{eqb-true}
use Rattle.lc_frame.specs.declared.progress.Progress.{Progress}
use Rattle.lc_frame.specs.Progress.{Holds}
use Rattle.lc_frame.proofs.Pieces.{held_further, open_further, left_further, within_further, takes_further, known_frame, known_fault}
use Rattle.lc_frame.proofs.progress.resume.Goals as goal

pub returns-then-is_empty : goal.returns-then-is_empty
returns-then-is_empty c =
    let at = c.steps.invariant in
    let step = c.advance-step.ensures in
    let taken = c.steps.taken + c.advance-step.result.taken in
    let left = left_further _ _ _ _ _ at.held at.left _ _ c.split_at.ensures.back in
    let none : length c.split_at.result.1.now ≡ 0 = eqb-true _ _ (sym c.if-is_empty.ensures) in
    takes_further _ _ _ _ _ at.held at.left c.args.version _ _ _ at.within at.shortest step (λ lt. absurd (omega (arith, lt, ap length left, length-drop taken c.args.piece.now, none)))

pub steps-preserved : goal.steps-preserved
steps-preserved c =
    let at = c.steps.invariant in
    let step = c.advance-step.ensures in
    record {
      wanted = subst (λ (p : Progress). Holds c.args.version p c.advance-step.new.buffer) c.in-Wants.is step.knows;
      within = within_further _ _ _ _ _ at.held at.left _ at.within step.count;
      left = left_further _ _ _ _ _ at.held at.left _ _ c.split_at.ensures.back;
      held = held_further _ _ _ _ _ at.held at.left _ _ step.held;
      shortest = open_further _ _ _ _ _ at.held at.left c.args.version _ at.shortest step.shortest;
    }

pub returns-in-Whole : goal.returns-in-Whole
returns-in-Whole c =
    let at = c.steps.invariant in
    let step = c.advance-step.ensures in
    let new = c.advance-step.new.buffer in
    takes_further _ _ _ _ _ at.held at.left c.args.version _ _ _ at.within at.shortest step (λ lt. known_frame c.args.version _ new (subst (λ (p : Progress). Holds c.args.version p new) c.in-Whole.is step.knows))

pub returns-in-Fault : goal.returns-in-Fault
returns-in-Fault c =
    let at = c.steps.invariant in
    let step = c.advance-step.ensures in
    let new = c.advance-step.new.buffer in
    takes_further _ _ _ _ _ at.held at.left c.args.version _ _ _ at.within at.shortest step (λ lt. known_fault c.args.version _ new (subst (λ (p : Progress). Holds c.args.version p new) c.in-Fault.is step.knows))

pub steps-smaller : goal.steps-smaller
steps-smaller c = search rules
