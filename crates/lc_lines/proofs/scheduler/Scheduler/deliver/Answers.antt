use Rattle.std.proofs.Common.{subst, sym}
use Rattle.lc_frame.specs.Stored.{fed}
use Rattle.lc_frame.specs.Splits.{frames_of}
use Rattle.lc_lines.proofs.Fields.{SameQueue, arrivals_keep, fields_same}
use Rattle.lc_lines.proofs.scheduler.Scheduler.deliver.Goals as goal

pub invariant_of-self : goal.invariant_of-self
invariant_of-self c =
    let p = c.self.inside.peer in
    let keeps = arrivals_keep p (frames_of (fed c.args.decoder.now c.args.piece.now)) c.self.invariant.channels in
    fields_same p c.deliver.new.self c.self.inside.queues c.self.inside.asides c.self.inside.sent c.self.inside.begun c.self.inside.exempt c.self.inside.counts (subst (SameQueue p) (sym c.deliver.ensures.peer) keeps) c.self.invariant
