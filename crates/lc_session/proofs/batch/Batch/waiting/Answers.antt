use Rattle.std.proofs.Common.{List, length, sym, ap, subst, ℕ, ◌∙◌}
use Rattle.lc_driver.specs.Writing.{text}
use Rattle.lc_session.specs.Batch.{BatchState, EndsAt}
use Rattle.lc_session.proofs.Batches.{all_frames, parts}
use Rattle.lc_session.proofs.batch.Batch.waiting.Goals as goal

pub returns : goal.returns
returns c =
    let at = c.self.invariant in
    let same = c.bytes-bytes.ensures ∙ ap (λ (b : BatchState). text b.version b.begun b.waiting) (sym c.self.view_is) ∙ sym (parts _ _ _ at.whole) in
    all_frames _ _ _ _ _ at.whole (subst (λ (xs : List ℕ). EndsAt c.self.inside.version c.self.inside.begun xs (length xs) c.frame_end.result.0 c.frame_end.result.1) same c.frame_end.ensures) ∙ ap (λ (b : BatchState). length b.waiting) c.self.view_is
