use Rattle.std.proofs.Common.{subst, sym}
use Rattle.lc_frame.specs.Stored.{fed}
use Rattle.lc_frame.specs.Splits.{frames_of}
use Rattle.lc_peer.proofs.Deliveries.{delivers}
use Rattle.lc_lines.proofs.Fields.{SameQueue, arrivals_keep, fields_same}
use Rattle.lc_lines.proofs.scheduler.Scheduler.deliver_through.Goals as goal

pub invariant_of-self : goal.invariant_of-self
invariant_of-self c =
    let p = c.self.inside.peer in
    let brings = delivers _ _ _ _ _ _ (c.deliver.ensures.delivers c.requires.going) in
    let keeps = arrivals_keep p (frames_of (fed c.args.intake.now.held c.args.piece.now)) c.self.invariant.channels in
    fields_same p c.deliver.new.sink c.self.inside.queues c.self.inside.asides c.self.inside.sent c.self.inside.begun c.self.inside.exempt c.self.inside.counts (subst (SameQueue p) (sym brings.peer) keeps) c.self.invariant

pub returns-clause-delivers : goal.returns-clause-delivers
returns-clause-delivers c = rw (← c.self.view_is) (delivers _ _ _ _ _ _ (c.deliver.ensures.delivers c.requires.going))
