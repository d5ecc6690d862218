use Rattle.std.proofs.Common.{List, ℕ, subst, sym}
use Rattle.lc_frame.specs.declared.version.Version.TheVariants.{One}
use Rattle.lc_frame.specs.Scan.{NeedsMore}
use Rattle.lc_frame.proofs.Fronts.{nothing_yet}
use Rattle.lc_frame.proofs.Openings.{opens_one, opens_part, opens_whole, opens_broken, from_cleared}
use Rattle.lc_frame.proofs.greeting.open.Goals as goal

pub resume-requires : goal.resume-requires
resume-requires c = subst (λ (x : List ℕ). NeedsMore _ x 1) (sym c.in-One.ensures.1) (nothing_yet _)

pub resume-more-requires : goal.resume-more-requires
resume-more-requires c = subst (λ (x : List ℕ). NeedsMore _ x 1) (sym c.clear.ensures) (nothing_yet _)

pub returns-in-One : goal.returns-in-One
returns-in-One c = opens_one _ _ _ _ _ _ (nothing_yet One) c.in-One.ensures c.resume.ensures

pub returns-in-Part : goal.returns-in-Part
returns-in-Part c = opens_part _ _ _ c.in-Part.ensures

pub returns-in-Whole : goal.returns-in-Whole
returns-in-Whole c =
    opens_whole _ _ _ _ c.in-Whole.taken _ _ c.in-Whole.ensures (from_cleared _ _ _ _ _ _ c.clear.ensures c.split_at.ensures.back c.resume-more.ensures)

pub returns-in-Broken : goal.returns-in-Broken
returns-in-Broken c = opens_broken _ _ _ _ c.in-Broken.ensures
