use Rattle.std.proofs.Common.{◌≡◌, true, rules, subst, sym}
use Rattle.lc_frame.specs.declared.kind.Kind.TheVariants.{Finish}
use Rattle.lc_frame.specs.Kind.{has}
use Rattle.lc_outbox.specs.Outbox.{IsOutbox}
use Rattle.lc_outbox.proofs.Kept.{kept_lane, kept_finished, kept_target}
use Rattle.lc_outbox.proofs.outbox.Outbox.finish.Goals.{in-Ok, in-Err}
use Rattle.lc_outbox.proofs.outbox.Outbox.finish.Goals as goal

pub invariant_of-self : goal.invariant_of-self
invariant_of-self g c =
    let known : has c.self.inside.lane.version Finish ≡ true = search rules in
    kept_target _ (kept_finished _ c.self.invariant _ _ c.in_ok-check_open.ensures.unfinished known c.in-Ok.ensures.after (search rules)) _

pub returns-clause-kept : goal.returns-clause-kept
returns-clause-kept g c =
    let known : has c.self.inside.lane.version Finish ≡ true = search rules in
    elim c.match-push.branch [ in-Ok w ↦ subst IsOutbox (sym w.self-is) (kept_target _ (kept_finished _ c.self.invariant _ _ c.in_ok-check_open.ensures.unfinished known w.in-Ok.ensures.after (search rules)) _) | in-Err w ↦ subst IsOutbox (sym w.self-is) (kept_lane _ _ w.in-Err.ensures.after.1 c.self.invariant) ]

pub returns-clause-ok : goal.returns-clause-ok
returns-clause-ok g c = search rules
