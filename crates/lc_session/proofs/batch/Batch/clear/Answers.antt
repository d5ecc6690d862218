use Rattle.std.proofs.Common.{ℕ, List, ◌∙◌, ap, arith, drop, length, refl, subst, sym}
use Rattle.std.proofs.lemmas.List.{length-drop, nil_from_length}
use Rattle.lc_frame.specs.StreamEncoder.{EncoderState}
use Rattle.lc_session.specs.Batch.{AreWhole, waiting_in}
use Rattle.lc_session.proofs.batch.Batch.clear.Goals as goal

pub invariant_of-self : goal.invariant_of-self
invariant_of-self c =
    let old = c.self.inside.encoder in
    let count = length c.pending-bytes.result.now in
    let none = ap (λ (e : EncoderState). e.pending) c.advance.ensures.is ∙ nil_from_length (drop count old.pending) (omega (arith, length-drop count old.pending, ap length c.pending-bytes.ensures.value)) in
    record {
      room = ap (λ (e : EncoderState). e.capacity) c.advance.ensures.is ∙ c.self.invariant.room;
      whole = subst (λ (xs : List ℕ). AreWhole c.self.inside.version 0 xs) (sym none) (record { within = omega arith; whole = refl; valid = tt });
    }

pub returns-clause-waiting : goal.returns-clause-waiting
returns-clause-waiting c =
    let old = c.self.inside.encoder in
    let count = length c.pending-bytes.result.now in
    let none = ap (λ (e : EncoderState). e.pending) c.advance.ensures.is ∙ nil_from_length (drop count old.pending) (omega (arith, length-drop count old.pending, ap length c.pending-bytes.ensures.value)) in
    ap (λ (xs : List ℕ). waiting_in c.self.inside.version 0 xs) none
