use Rattle.std.proofs.Common.{arith}
use Rattle.lc_outbox.proofs.Kept.{not_absolved_loads, kept_loads, kept_either}
use Rattle.lc_outbox.proofs.outbox.Outbox.absolve.Goals as goal

pub invariant_of-self : goal.invariant_of-self
invariant_of-self g c = let e = not_absolved_loads _ _ _ _ c.in_err-absolve.ensures.err in kept_loads _ c.self.invariant e.0 _ e.1

pub returns-in_err-absolve-clause-kept : goal.returns-in_err-absolve-clause-kept
returns-in_err-absolve-clause-kept g c = invariant_of-self g c

pub invariant_of-self-2 : goal.invariant_of-self-2
invariant_of-self-2 g c =
    let e = c.put_used.ensures in
    kept_either _ c.self.invariant c.put_used.result _ _ _ _ c.in_ok-check_open.ensures.unfinished (omega arith) c.in_ok-absolve.ensures.small c.in_ok-absolve.ensures.ok e.put e.counted e.unput e.makes e.given_back

pub returns-clause-kept : goal.returns-clause-kept
returns-clause-kept g c = invariant_of-self-2 g c
