use Rattle.std.proofs.Common.{◌≡◌, ◌∙◌, true, None, subst, sym}
use Rattle.lc_peer.specs.Calls.{refusal}
use Rattle.lc_lines.specs.Bounds.{frame_of_bound}
use Rattle.lc_lines.specs.Scheduler.{SchedulerState, can_bound}
use Rattle.lc_lines.proofs.Accepted.{is_ready, accepted_bound}
use Rattle.lc_lines.proofs.Fields.{bound_fields}
use Rattle.lc_lines.proofs.scheduler.Scheduler.put_bound.Goals as goal

pub unreachable-requires : goal.unreachable-requires
unreachable-requires c =
    let none : refusal c.self.inside.peer (frame_of_bound c.args.channel c.args.bound) ≡ None = subst (λ (s : SchedulerState). refusal s.peer (frame_of_bound c.args.channel c.args.bound) ≡ None) (sym c.self.view_is) (accepted_bound c.args.self.now c.args.channel c.args.bound c.requires) in
    let gone = c.in-Err.ensures.answer ∙ none in
    cc

pub invariant_of-self : goal.invariant_of-self
invariant_of-self c =
    let p = c.self.inside.peer in
    let h = c.self.inside.asides in
    let old : SchedulerState = record { peer = p; queues = c.self.inside.queues; asides = h; sent = c.self.inside.sent; begun = c.self.inside.begun; exempt = c.self.inside.exempt; left = c.self.inside.left } in
    let ready = subst (λ (s : SchedulerState). can_bound s c.args.channel c.args.bound ≡ true) (sym c.self.view_is) c.requires in
    let is = is_ready old c.args.channel c.args.bound ready in
    bound_fields p c.put_end.new.peer c.args.channel c.args.bound c.self.inside.queues h c.self.inside.sent c.self.inside.begun c.self.inside.exempt c.self.inside.counts c.in-Ok.ensures.after is.permits is.slot c.self.invariant
