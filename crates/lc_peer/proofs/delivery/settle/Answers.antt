use Rattle.std.proofs.Common.{Option, refl, sym, ap, subst, ◌∙◌}
use Rattle.lc_frame.specs.declared.version.Version.{Version}
use Rattle.lc_frame.specs.FrameRef.{frame_of}
use Rattle.lc_frame.specs.Stored.{Stored, IsValidIn, IsUndecided}
use Rattle.lc_frame.proofs.Stored.{whole_has}
use Rattle.lc_peer.proofs.Feeds.{all_open, ends, shortest_fault}
use Rattle.lc_peer.proofs.Deliveries.{one_held}
use Rattle.lc_peer.proofs.Kept.{nothing_kept}
use Rattle.lc_peer.proofs.delivery.settle.Goals as goal

pub returns-in-Ok-clause-steps : goal.returns-in-Ok-clause-steps
returns-in-Ok-clause-steps g c = λ old piece feed.
    let f = frame_of c.in-Some.frame in
    let found = c.in-Some.ensures.found in
    let cleared = c.clear.ensures.whole f (whole_has f c.args.decoder.now found) in
    record {
      frame = f;
      valid = subst (λ (o : Option Version). IsValidIn o f) (sym (ap (λ (h : Stored). h.version) cleared)) found.0;
      arrived = c.in-Ok.ensures.ok;
      within = feed.count;
      whole = sym feed.held ∙ one_held f c.args.decoder.now c.clear.new.self found.1 cleared;
      cleared = ap (λ (h : Stored). h.bytes) cleared;
    }

pub returns-in-Ok-clause-kept : goal.returns-in-Ok-clause-kept
returns-in-Ok-clause-kept g c = λ rings kept.
    let found = c.in-Some.ensures.found in
    nothing_kept rings c.clear.new.self (ap (λ (h : Stored). h.bytes) (c.clear.ensures.whole (frame_of c.in-Some.frame) (whole_has (frame_of c.in-Some.frame) c.args.decoder.now found)))

pub returns-in-Err-clause-steps : goal.returns-in-Err-clause-steps
returns-in-Err-clause-steps g c = λ old piece feed. record {
  frame = frame_of c.in-Some.frame;
  valid = c.in-Some.ensures.found.0;
  violated = c.in-Err.ensures.err;
  within = feed.count;
  grown = feed.held;
  whole = c.in-Some.ensures.found.1;
}

pub returns-in-Some-fault-clause-steps : goal.returns-in-Some-fault-clause-steps
returns-in-Some-fault-clause-steps g c = λ old piece feeds. record {
  same = refl;
  within = feeds.count;
  grown = feeds.held;
  known = c.in-Some-fault.ensures.found;
  shortest = shortest_fault old c.args.decoder.now piece c.args.taken feeds;
}

pub returns-in-None-fault-clause-steps : goal.returns-in-None-fault-clause-steps
returns-in-None-fault-clause-steps g c = λ old piece feeds.
    let undecided : IsUndecided c.args.decoder.now = record { no_frame = c.in-None.ensures.none; no_fault = c.in-None-fault.ensures.none } in
    let all = all_open old c.args.decoder.now piece c.args.taken feeds undecided in
    record { same = refl; all = all; grown = ends old c.args.decoder.now piece c.args.taken feeds all; undecided = undecided }
