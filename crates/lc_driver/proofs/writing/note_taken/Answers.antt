use Rattle.std.proofs.Common.{rules, ap, arith, sym, subst, ◌∙◌}
use Rattle.lc_frame.specs.declared.version.Version.{Version}
use Rattle.lc_frame.specs.Frame.{IsValid}
use Rattle.lc_frame.specs.Encoding.{encoding}
use Rattle.lc_frame.proofs.Fronts.{frame_fits}
use Rattle.lc_driver.proofs.Frames.{first_of}
use Rattle.lc_driver.proofs.Written.{goes_on}
use Rattle.lc_peer.specs.Peer.{PeerState}
use Rattle.lc_frame.specs.declared.frame.Frame.{Frame}
use Rattle.std.proofs.Common.{List, ◌∷◌, length}
use Rattle.lc_driver.proofs.writing.note_taken.Goals as goal

pub overflow_add-end : goal.overflow_add-end
overflow_add-end c =
    let valid : IsValid c.version-version.result c.in-Some.frame = subst (λ (v : Version). IsValid v c.in-Some.frame) (c.frames.invariant.version ∙ sym c.version-version.ensures) c.in-Some.ensures.valid in
    let long = c.encoded_len-end.ensures.longest valid in
    omega (arith, long, c.frames-test.true, c.requires.within, c.requires.small, frame_fits c.version-version.result, frame_fits c.args.outgo.now.version)

pub frames-preserved-in-Some : goal.frames-preserved-in-Some
frames-preserved-in-Some c =
    let at = c.frames.invariant in
    let out = c.next_out.ensures in
    let first = first_of c.frames.peer.waiting c.in-Some.frame (sym c.in-Some.is ∙ out.value) in
    let step = goes_on c.args.outgo.now.version c.args.outgo.now.pending c.args.begun c.args.taken c.frames.end c.encoded_len-end.result c.args.peer.now c.frames.peer c.next_out.new.self c.in-Some.frame c.requires.ahead.within c.requires.within c.frames-test.true (record { ahead = at.ahead; gone = at.gone }) (first ∙ ap (λ (ws : List Frame). c.in-Some.frame ∷ ws) (sym (ap (λ (p : PeerState). p.waiting) out.after))) out.after (c.encoded_len-end.ensures.value ∙ ap (λ (v : Version). length (encoding v c.in-Some.frame)) c.version-version.ensures) in
    record { version = ap (λ (p : PeerState). p.version) out.after ∙ at.version; ahead = step.ahead; gone = step.gone }

pub frames-preserved : goal.frames-preserved
frames-preserved c =
    let at = c.frames.invariant in
    let out = c.next_out.ensures in
    let first = first_of c.frames.peer.waiting c.in-Some.frame (sym c.in-Some.is ∙ out.value) in
    let step = goes_on c.args.outgo.now.version c.args.outgo.now.pending c.args.begun c.args.taken c.frames.end c.encoded_len-end.result c.args.peer.now c.frames.peer c.next_out.new.self c.in-Some.frame c.requires.ahead.within c.requires.within c.frames-test.true (record { ahead = at.ahead; gone = at.gone }) (first ∙ ap (λ (ws : List Frame). c.in-Some.frame ∷ ws) (sym (ap (λ (p : PeerState). p.waiting) out.after))) out.after (c.encoded_len-end.ensures.value ∙ ap (λ (v : Version). length (encoding v c.in-Some.frame)) c.version-version.ensures) in
    record { version = ap (λ (p : PeerState). p.version) out.after ∙ at.version; ahead = step.ahead; gone = step.gone }

pub frames-smaller : goal.frames-smaller
frames-smaller c = search rules
