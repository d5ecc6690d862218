use Rattle.std.proofs.Common.{subst, sym, [], ◌∷◌}
use Rattle.lc_frame.specs.FrameRef.{frame_of}
use Rattle.lc_lines.proofs.Fields.{SameQueue, arrivals_keep, fields_same}
use Rattle.lc_lines.proofs.scheduler.Scheduler.arrive.Goals as goal

pub invariant_of-self : goal.invariant_of-self
invariant_of-self c =
    let p = c.self.inside.peer in
    let keeps = arrivals_keep p (frame_of c.args.frame ∷ []) c.self.invariant.channels in
    fields_same p c.arrive.new.self c.self.inside.queues c.self.inside.asides c.self.inside.sent c.self.inside.begun c.self.inside.exempt c.self.inside.counts (subst (SameQueue p) (sym c.arrive.ensures.after) keeps) c.self.invariant
