use Rattle.std.proofs.Common.{rules, subst, sym}
use Rattle.lc_outbox.specs.Outbox.{IsOutbox}
use Rattle.lc_outbox.proofs.Kept.{kept_lane, kept_limited}
use Rattle.lc_outbox.proofs.outbox.Outbox.limit.Goals.{in-Ok, in-Err}
use Rattle.lc_outbox.proofs.outbox.Outbox.limit.Goals as goal

pub invariant_of-self : goal.invariant_of-self
invariant_of-self g c = kept_limited _ c.self.invariant _ _ c.in_ok-check_open.ensures.unfinished (sym c.in_ok-check_limit.ensures.answer) c.in-Ok.ensures.after

pub returns-clause-kept : goal.returns-clause-kept
returns-clause-kept g c =
    elim c.match-push.branch [ in-Ok w ↦ subst IsOutbox (sym w.self-is) (kept_limited _ c.self.invariant _ _ c.in_ok-check_open.ensures.unfinished (sym c.in_ok-check_limit.ensures.answer) w.in-Ok.ensures.after) | in-Err w ↦ subst IsOutbox (sym w.self-is) (kept_lane _ _ w.in-Err.ensures.after.1 c.self.invariant) ]

pub returns-clause-ok : goal.returns-clause-ok
returns-clause-ok g c = search rules
