use Rattle.std.proofs.Common.{rules, sym, ap, subst, ◌∙◌}
use Rattle.lc_frame.specs.Frame.{IsValid}
use Rattle.std.specs.Arc.{arc_value}
use Rattle.lc_queue.proofs.Moves.{puts_as}
use Rattle.lc_queue.proofs.lane_end.LaneEnd.push.Goals as goal

pub push_as-requires-clause-rule : goal.push_as-requires-clause-rule
push_as-requires-clause-rule g c = puts_as _ _ _ _ _ _ _ (ap (λ q. q.cap) c.deref-2.ensures ∙ sym (arc_value c.self.inside.queue).sized.1 ∙ sym (ap (λ t. t.slots) c.self.invariant.0.0)) c.self.invariant.1 (c.requires.lane ∙ ap (λ e. e.lane) (sym c.self.view_is)) (subst (λ e. IsValid e.version c.args.frame) (sym c.self.view_is) c.requires.valid)

pub returns-clause-after : goal.returns-clause-after
returns-clause-after g c = search rules
