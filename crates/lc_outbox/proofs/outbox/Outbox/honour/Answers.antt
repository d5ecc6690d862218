use Rattle.lc_outbox.proofs.Kept.{is_counted, is_given_back, kept_answers, answers_unfinished, kept_loads, loads_unfinished, kept_back, kept_absolved, kept_target}
use Rattle.lc_outbox.proofs.Honoured.{unasked, met, honoured, put_off}
use Rattle.lc_outbox.proofs.outbox.Outbox.honour.Goals as goal

pub invariant_of-self : goal.invariant_of-self
invariant_of-self g c = kept_target _ (kept_answers _ c.self.invariant _ _ _ c.take_target-self-inside.ensures.answers) _

pub returns-in_default-clause-kept : goal.returns-in_default-clause-kept
returns-in_default-clause-kept g c = invariant_of-self g c

pub invariant_of-self-in_default-lower_to : goal.invariant_of-self-in_default-lower_to
invariant_of-self-in_default-lower_to g c =
    let met = c.in_default-lower_to.ensures.none in
    kept_target _ (kept_loads _ (kept_answers _ c.self.invariant _ _ _ c.take_target-self-inside.ensures.answers) met.0 _ met.1) _

pub returns-in_default-lower_to-clause-kept : goal.returns-in_default-lower_to-clause-kept
returns-in_default-lower_to-clause-kept g c = invariant_of-self-in_default-lower_to g c

pub invariant_of-self-in-Ok : goal.invariant_of-self-in-Ok
invariant_of-self-in-Ok g c =
    let low = c.in-Some-lower_to.ensures.some in
    let range = c.in-Some-lower_to.ensures.range in
    let e = c.in-Ok.ensures in
    let unfinished = answers_unfinished _ _ _ _ c.take_target-self-inside.ensures.answers c.in_ok-check_open.ensures.unfinished in
    kept_target _ (kept_absolved _ (kept_loads _ (kept_answers _ c.self.invariant _ _ _ c.take_target-self-inside.ensures.answers) low.held low.loaded low.loads) _ _ _ (loads_unfinished _ _ _ low.loads unfinished) range.0 range.1 e.put (is_counted _ _ _ _ _ low.used e.counted)) _

pub returns-in-Ok-clause-kept : goal.returns-in-Ok-clause-kept
returns-in-Ok-clause-kept g c = invariant_of-self-in-Ok g c

pub invariant_of-self-in-Err : goal.invariant_of-self-in-Err
invariant_of-self-in-Err g c =
    let low = c.in-Some-lower_to.ensures.some in
    let e = c.in-Err.ensures in
    kept_target _ (kept_back _ (kept_loads _ (kept_answers _ c.self.invariant _ _ _ c.take_target-self-inside.ensures.answers) low.held low.loaded low.loads) _ _ _ _ e.unput (is_given_back _ _ _ _ _ low.used e.makes e.given_back)) _

pub returns-in-Err-clause-kept : goal.returns-in-Err-clause-kept
returns-in-Err-clause-kept g c = invariant_of-self-in-Err g c

pub returns-in_default-clause-ok : goal.returns-in_default-clause-ok
returns-in_default-clause-ok g c = unasked _ _ c.self.view_is _ _ c.take_target-self-inside.ensures.answers c.in_default.is

pub returns-in_default-lower_to-clause-ok : goal.returns-in_default-lower_to-clause-ok
returns-in_default-lower_to-clause-ok g c = met _ _ c.self.view_is _ _ c.take_target-self-inside.ensures.answers _ c.in-Some.is _ c.in_default-lower_to.ensures.none

pub returns-in-Ok-clause-ok : goal.returns-in-Ok-clause-ok
returns-in-Ok-clause-ok g c =
    let e = c.in-Ok.ensures in
    honoured _ _ c.self.view_is _ _ c.take_target-self-inside.ensures.answers _ c.in-Some.is _ _ _ _ c.in-Some-lower_to.ensures.some e.put e.counted

pub returns-in-Err-clause-err : goal.returns-in-Err-clause-err
returns-in-Err-clause-err g c =
    let e = c.in-Err.ensures in
    put_off _ _ c.self.view_is _ _ c.take_target-self-inside.ensures.answers _ c.in-Some.is _ _ _ _ c.in-Some-lower_to.ensures.some _ c.in_ok-check_open.ensures.unfinished e.full e.unput e.makes e.given_back
