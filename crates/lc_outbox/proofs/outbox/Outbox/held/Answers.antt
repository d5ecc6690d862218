use Rattle.lc_outbox.proofs.Kept.{kept_holds}
use Rattle.lc_outbox.proofs.outbox.Outbox.held.Goals as goal

pub invariant_of-self : goal.invariant_of-self
invariant_of-self c = kept_holds _ c.self.invariant _ _ c.held.ensures.holds

pub returns-clause-kept : goal.returns-clause-kept
returns-clause-kept c = invariant_of-self c
