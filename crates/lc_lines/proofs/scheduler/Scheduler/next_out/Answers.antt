use Rattle.std.proofs.Common.{◌≡◌, ◌∙◌, Some, sym}
use Rattle.lc_peer.specs.Calls.{next}
use Rattle.lc_lines.proofs.Fields.{next_fields, few_kept}
use Rattle.lc_lines.proofs.scheduler.Scheduler.next_out.Goals as goal

pub leave_frame-requires-clause-kept : goal.leave_frame-requires-clause-kept
leave_frame-requires-clause-kept c =
    few_kept c.self.inside.peer c.self.inside.queues c.self.inside.asides c.self.inside.sent c.self.inside.begun c.self.inside.exempt c.self.inside.counts c.self.invariant

pub invariant_of-self-2 : goal.invariant_of-self-2
invariant_of-self-2 c =
    let p = c.self.inside.peer in
    let first : next p ≡ Some c.in_ok-frame.frame = sym c.next_out.ensures.value ∙ c.in_ok-frame.was in
    next_fields p c.next_out.new.self c.in_ok-frame.frame c.self.inside.queues c.self.inside.asides c.self.inside.sent c.self.inside.begun c.message_len-begun.result c.self.inside.exempt c.self.inside.counts c.leave_frame.new.self c.next_out.ensures.after first c.message_len-begun.ensures c.leave_frame.ensures c.self.invariant
