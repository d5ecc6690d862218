use Rattle.std.proofs.Common.{ℕ, List, subst, sym}
use Rattle.lc_frame.specs.Scan.{NeedsMore}
use Rattle.lc_frame.proofs.Fronts.{nothing_yet}
use Rattle.lc_frame.proofs.Openings.{whole_stands}
use Rattle.lc_frame.proofs.stream_decoder.StreamDecoder.clear.Goals as goal

pub invariant_of-self : goal.invariant_of-self
invariant_of-self c = subst (λ (x : List ℕ). NeedsMore c.self.inside.version x 1) (sym c.clear.ensures) (nothing_yet c.self.inside.version)

pub returns-in-Whole-clause-other : goal.returns-in-Whole-clause-other
returns-in-Whole-clause-other c = λ none. absurd (none _ (whole_stands _ _ _ _ c.self.invariant c.self.view_is _ c.in-Whole.is))
