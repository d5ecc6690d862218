use Rattle.std.proofs.Common.{rules, sym, ap, ◌∙◌}
use Rattle.lc_queue.proofs.Moves.{takes_as, begun_as}
use Rattle.crossbeam_queue.specs.Passes.{view as pass_view}
use Rattle.lc_queue.specs.declared.rule.View.{View}
use Rattle.lc_queue.specs.Passes.{terms_of}
use Rattle.lc_queue.proofs.drain.Drain.pop.Goals as goal

pub pop_as-popped-requires-clause-rule : goal.pop_as-popped-requires-clause-rule
pop_as-popped-requires-clause-rule g c = takes_as _ _ _ _ _ _ c.self.invariant.1

pub returns-clause-after : goal.returns-clause-after
returns-clause-after g c = search rules

pub returns-clause-begun : goal.returns-clause-begun
returns-clause-begun g c = begun_as c.pop_as-popped.result _ (pass_view c.self.inside.pass) (pass_view c.pop_as-popped.new.pass) (ap (λ (v : View). (terms_of v).slots) c.self.invariant.1 ∙ sym (ap (λ t. t.slots) c.pop_as-popped.ensures.queue.0)) c.pop_as-popped.ensures.rule
