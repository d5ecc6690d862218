use Rattle.std.proofs.Common.{ℕ, ◌≤◌, subst, sym}
use Rattle.lc_lines.specs.Lines.{LinesState, DeliversAndSettles}
use Rattle.lc_lines.proofs.Runs.{delivers_and_settles}
use Rattle.lc_lines.proofs.lines.Lines.deliver_through.Goals as goal

pub invariant_of-self : goal.invariant_of-self
invariant_of-self c = record { some = subst (λ (n : ℕ). 1 ≤ n) (sym c.settle.ensures.entries) c.self.invariant.some; settled = c.settle.ensures.settled }

pub returns-clause-after : goal.returns-clause-after
returns-clause-after c =
    let old : LinesState = record { scheduler = c.self.inside.scheduler; notices = c.self.inside.notices.items; entries = c.self.inside.notices.capacity } in
    let new : LinesState = record { scheduler = c.settle.new.scheduler; notices = c.settle.new.notices.items; entries = c.settle.new.notices.capacity } in
    subst (λ (l : LinesState). DeliversAndSettles l c.args.intake.now.held c.args.piece.now new c.deliver_through-delivery.new.intake.held c.deliver_through-delivery.result) c.self.view_is
    (delivers_and_settles old new c.deliver_through-delivery.new.self c.args.intake.now.held c.deliver_through-delivery.new.intake.held c.args.piece.now c.deliver_through-delivery.result c.deliver_through-delivery.ensures.delivers c.deliver_through-delivery.ensures.rest c.settle.ensures.runs c.settle.ensures.entries)
