use Rattle.std.proofs.Common.{◌≡◌, [], ◌∷◌, take, refl, sym, ap, subst, ◌∙◌, arith}
use Rattle.lc_frame.specs.FrameRef.{frame_of}
use Rattle.lc_frame.specs.declared.decoded.Decoded.{Decoded}
use Rattle.lc_frame.specs.Decoded.{Decodes}
use Rattle.lc_frame.specs.StreamDecoder.{TakesMore}
use Rattle.lc_frame.specs.Stored.{Stored, stored_in, fed, before, IsValidIn, encoding_in, IsUndecided}
use Rattle.lc_frame.proofs.Openings.{undecided_of}
use Rattle.lc_peer.proofs.Feeds.{from_nothing, holds_fault, shortest_fault, holds_frame}
use Rattle.lc_peer.proofs.Deliveries.{front_fits, one_whole}
use Rattle.lc_peer.proofs.delivery.step_in_piece.Goals as goal

pub returns-in-Ok-clause-steps : goal.returns-in-Ok-clause-steps
returns-in-Ok-clause-steps g c =
    let f = frame_of c.in-Whole.frame in
    let found = (subst (λ (d : Decoded). Decodes c.args.version d c.args.piece.now) c.in-Whole.is c.in-Some.ensures.decodes) in
    let v = c.args.version in
    let still = (subst (λ (d : Decoded). TakesMore d c.args.decoder.now c.args.piece.now c.decode_or_take.new.self) c.in-Whole.is c.in-Some.ensures.held) in
    record {
      frame = f;
      valid = subst (λ (h : Stored). IsValidIn h.version f) (sym (still ∙ c.requires)) found.0.stands.valid;
      arrived = c.in-Ok.ensures.ok;
      within = front_fits v c.args.piece.now f c.in-Whole.used found.0.stands found.1;
      whole = one_whole v c.args.piece.now f c.in-Whole.used c.args.decoder.now c.requires found.0.stands found.1 ∙ ap (λ (h : Stored). before (f ∷ []) h) (sym still);
      cleared = ap (λ (h : Stored). h.bytes) (still ∙ c.requires);
    }

pub returns-in-Err-clause-steps : goal.returns-in-Err-clause-steps
returns-in-Err-clause-steps g c =
    let f = frame_of c.in-Whole.frame in
    let found = (subst (λ (d : Decoded). Decodes c.args.version d c.args.piece.now) c.in-Whole.is c.in-Some.ensures.decodes) in
    let v = c.args.version in
    let still = (subst (λ (d : Decoded). TakesMore d c.args.decoder.now c.args.piece.now c.decode_or_take.new.self) c.in-Whole.is c.in-Some.ensures.held) in
    let feeds = from_nothing v c.decode_or_take.new.self c.feed.new.decoder c.args.piece.now c.feed.result (still ∙ c.requires) c.feed.ensures in
    let is = holds_frame v c.feed.new.decoder c.args.piece.now c.feed.result feeds f found.0.stands in
    record {
      frame = f;
      valid = subst (λ (h : Stored). IsValidIn h.version f) (sym is) found.0.stands.valid;
      violated = c.in-Err.ensures.err;
      within = feeds.count;
      grown = c.feed.ensures.held ∙ ap (λ (h : Stored). fed h (take c.feed.result c.args.piece.now)) still;
      whole = subst (λ (h : Stored). h.bytes ≡ encoding_in h.version f) (sym is) refl;
    }

pub returns-in-More-clause-steps : goal.returns-in-More-clause-steps
returns-in-More-clause-steps g c =
    let v = c.args.version in
    let grown = (subst (λ (d : Decoded). TakesMore d c.args.decoder.now c.args.piece.now c.decode_or_take.new.self) c.in-More.is c.in-Some.ensures.held) in
    let undecided = undecided_of v c.args.piece.now (subst (λ (d : Decoded). Decodes c.args.version d c.args.piece.now) c.in-More.is c.in-Some.ensures.decodes) in
    record {
      same = refl;
      all = omega arith;
      grown = grown;
      undecided = subst IsUndecided (sym (grown ∙ ap (λ (h : Stored). fed h c.args.piece.now) c.requires)) undecided;
    }

pub returns-in-Fault-clause-steps : goal.returns-in-Fault-clause-steps
returns-in-Fault-clause-steps g c =
    let v = c.args.version in
    let still = (subst (λ (d : Decoded). TakesMore d c.args.decoder.now c.args.piece.now c.decode_or_take.new.self) c.in-Fault.is c.in-Some.ensures.held) in
    let feeds = from_nothing v c.decode_or_take.new.self c.feed-in-Fault.new.decoder c.args.piece.now c.feed-in-Fault.result (still ∙ c.requires) c.feed-in-Fault.ensures in
    record {
      same = refl;
      within = feeds.count;
      grown = c.feed-in-Fault.ensures.held ∙ ap (λ (h : Stored). fed h (take c.feed-in-Fault.result c.args.piece.now)) still;
      known = holds_fault (stored_in v []) c.feed-in-Fault.new.decoder c.args.piece.now c.feed-in-Fault.result feeds c.in-Fault.fault (subst (λ (d : Decoded). Decodes c.args.version d c.args.piece.now) c.in-Fault.is c.in-Some.ensures.decodes).stands;
      shortest = shortest_fault (stored_in v []) c.feed-in-Fault.new.decoder c.args.piece.now c.feed-in-Fault.result feeds;
    }
