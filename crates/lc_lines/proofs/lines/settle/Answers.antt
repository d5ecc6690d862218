use Rattle.std.proofs.Common.{refl, sym, ap, ◌∙◌, subst}
use Rattle.std.proofs.lemmas.List.{append-nil}
use Rattle.circular_buffer.specs.Buffer.{Buffer}
use Rattle.lc_lines.specs.declared.scheduler.Notice.{Notice}
use Rattle.lc_lines.specs.Lines.{Runs}
use Rattle.lc_lines.proofs.Runs.{runs_none, runs_push}
use Rattle.lc_lines.proofs.lines.settle.Goals as goal

pub steps-init : goal.steps-init
steps-init c = (runs_none _ _ (append-nil _), refl)

pub steps-preserved : goal.steps-preserved
steps-preserved c =
    let pushed = runs_push c.args.scheduler.now c.steps.scheduler c.step.new.self c.args.notices.now.items c.steps.notices.items c.in-Some.notice c.steps.invariant.0 c.in-Some.ensures.steps in
    (subst (λ (notices : Buffer Notice). Runs c.args.scheduler.now c.args.notices.now.items c.step.new.self notices.items) (sym c.notify.ensures) pushed, ap (λ (notices : Buffer Notice). notices.capacity) c.notify.ensures ∙ c.steps.invariant.1)
