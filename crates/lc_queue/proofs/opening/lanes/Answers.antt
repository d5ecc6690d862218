use Rattle.std.proofs.Common.{rules, ◌≡◌, ◌∙◌, ap}
use Rattle.lc_queue.specs.Opened.{Opened}
use Rattle.lc_queue.specs.Parts.{Outlet}
use Rattle.lc_queue.proofs.Ends.{ends_as, ends_are_one}
use Rattle.lc_queue.proofs.opening.lanes.Goals as goal

pub returns-clause-slots : goal.returns-clause-slots
returns-clause-slots c = search rules

pub returns-clause-ends : goal.returns-clause-ends
returns-clause-ends c =
    let same : c.drain-drain.result.queue ≡ c.in_ok-opening.opening.queue = ap (λ (d : Outlet). d.queue) c.drain-drain.ensures ∙ ap (λ (o : Opened). o.queue) c.in_ok-ends.ensures.1 in
    ends_as _ _ _ _ _ same c.in_ok-opening.ensures.1 c.in_ok-ends.ensures.0

pub returns-clause-one : goal.returns-clause-one
returns-clause-one c = ends_are_one _ _ _ (returns-clause-ends c)
