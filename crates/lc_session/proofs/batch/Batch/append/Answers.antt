use Rattle.std.proofs.Common.{Bool, ◌++◌, ◌∷◌, [], ◌∙◌, ap, subst, sym}
use Rattle.lc_frame.specs.declared.frame.Frame.{Frame}
use Rattle.lc_frame.specs.Frame.{IsValid}
use Rattle.lc_frame.specs.FrameRef.{frame_of}
use Rattle.lc_frame.specs.Encoding.{encoding}
use Rattle.lc_frame.specs.StreamEncoder.{EncoderState, IsAppended}
use Rattle.lc_session.specs.Batch.{BatchState}
use Rattle.lc_session.proofs.Batches.{appended}
use Rattle.lc_session.proofs.batch.Batch.append.Goals as goal

pub invariant_of-self : goal.invariant_of-self
invariant_of-self c =
    let at = c.self.invariant in
    let old = c.self.inside.encoder in
    let valid = subst (λ (b : BatchState). IsValid b.version c.args.frame) (sym c.self.view_is) c.requires.valid in
    let put = subst (λ (had : Bool). IsAppended c.self.inside.version (frame_of c.view.result) had old c.append.new.self) c.if-not-append.false c.append.ensures.value in
    let more = ap (λ (e : EncoderState). e.pending) put ∙ ap (λ (f : Frame). old.pending ++ encoding c.self.inside.version f) c.view.ensures in
    record {
      room = ap (λ (e : EncoderState). e.capacity) put ∙ at.room;
      whole = (appended _ _ _ _ _ at.whole valid more).whole;
    }

pub returns-clause-waiting : goal.returns-clause-waiting
returns-clause-waiting c =
    let at = c.self.invariant in
    let old = c.self.inside.encoder in
    let valid = subst (λ (b : BatchState). IsValid b.version c.args.frame) (sym c.self.view_is) c.requires.valid in
    let put = subst (λ (had : Bool). IsAppended c.self.inside.version (frame_of c.view.result) had old c.append.new.self) c.if-not-append.false c.append.ensures.value in
    let more = ap (λ (e : EncoderState). e.pending) put ∙ ap (λ (f : Frame). old.pending ++ encoding c.self.inside.version f) c.view.ensures in
    (appended _ _ _ _ _ at.whole valid more).waiting ∙ ap (λ (b : BatchState). b.waiting ++ c.args.frame ∷ []) c.self.view_is
