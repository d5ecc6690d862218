use Rattle.std.proofs.Common.{ℕ, List, ◌-◌, ◌≤◌, ◌∙◌, ap, arith, length, refl, subst}
use Rattle.lc_frame.specs.StreamEncoder.{EncoderState}
use Rattle.lc_driver.specs.Writing.{text}
use Rattle.lc_session.specs.Batch.{BatchState, EndsAt, LetsGo, batch_of}
use Rattle.lc_session.proofs.Batches.{parts, written_off}
use Rattle.lc_session.proofs.batch.Batch.note_written.Goals as goal

pub invariant_of-self : goal.invariant_of-self
invariant_of-self c =
    let at = c.self.invariant in
    let here = c.self.inside in
    let within : c.args.count ≤ length here.encoder.pending = omega (arith, c.requires, ap (λ (b : BatchState). length (text b.version b.begun b.waiting)) c.self.view_is, ap length (parts _ _ _ at.whole)) in
    let end = subst (λ (xs : List ℕ). EndsAt here.version here.begun xs c.args.count c.frame_end-end.result.0 c.frame_end-end.result.1) c.pending-bytes.ensures.value c.frame_end-end.ensures in
    record {
      room = ap (λ (e : EncoderState). e.capacity) c.advance.ensures.is ∙ at.room;
      whole = (written_off _ _ _ _ _ _ _ _ at.whole within end refl (ap (λ (e : EncoderState). e.pending) c.advance.ensures.is)).whole;
    }

pub returns : goal.returns
returns c =
    let at = c.self.invariant in
    let here = c.self.inside in
    let within : c.args.count ≤ length here.encoder.pending = omega (arith, c.requires, ap (λ (b : BatchState). length (text b.version b.begun b.waiting)) c.self.view_is, ap length (parts _ _ _ at.whole)) in
    let end = subst (λ (xs : List ℕ). EndsAt here.version here.begun xs c.args.count c.frame_end-end.result.0 c.frame_end-end.result.1) c.pending-bytes.ensures.value c.frame_end-end.ensures in
    let left = written_off _ _ _ _ _ _ _ _ at.whole within end refl (ap (λ (e : EncoderState). e.pending) c.advance.ensures.is) in
    subst (λ (b : BatchState). LetsGo c.args.count b (batch_of here.version (c.frame_end-end.result.0 - c.args.count) c.advance.new.self.pending c.advance.new.self.room)) c.self.view_is (left.goes _ _)
