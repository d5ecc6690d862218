use Rattle.std.proofs.Common.{◌≡◌, true, None, ap, sym, ◌∙◌, subst}
use Rattle.std.specs.Prelude.{is_ok}
use Rattle.lc_frame.specs.Frame.{channel_of}
use Rattle.lc_peer.specs.Peer.{client}
use Rattle.lc_lines.specs.Permits.{beyond_permits}
use Rattle.lc_lines.specs.Outbound.{has_control_slot}
use Rattle.lc_lines.specs.Scheduler.{SchedulerState, aside, frame_of_control}
use Rattle.lc_lines.proofs.Fields.{control_fields}
use Rattle.lc_lines.proofs.scheduler.Scheduler.control.Goals as goal

pub invariant_of-self : goal.invariant_of-self
invariant_of-self c =
    let slot : has_control_slot c.self.inside.peer c.self.inside.asides ≡ true = ap (λ (s : SchedulerState). has_control_slot s.peer s.asides) c.self.view_is ∙ (sym c.has_control_slot.ensures ∙ c.if-has_control_slot.true) in
    let f = frame_of_control c.args.control in
    let spared = subst (λ (s : SchedulerState). beyond_permits (client s.peer (channel_of f)) (aside s (channel_of f)) f ≡ None) (sym c.self.view_is) c.in_ok-spare_permits.ensures.spared in
    control_fields (is_ok c.put_control.result) c.self.inside.peer c.put_control.new.peer c.args.control c.self.inside.queues c.self.inside.asides c.self.inside.sent c.self.inside.begun c.self.inside.exempt c.self.inside.counts c.put_control.ensures.after slot spared c.self.invariant
