use Rattle.std.proofs.Common.{refl, sym, ap, ◌∙◌, length, rules}
use Rattle.lc_frame.specs.declared.version.Version.{Version}
use Rattle.lc_book.specs.Client.{message_refusal}
use Rattle.lc_outbox.proofs.Kept.{not_spent_loads, is_counted, is_given_back, kept_loads, kept_back, kept_sent}
use Rattle.lc_outbox.proofs.outbox.Outbox.send.Goals as goal

pub invariant_of-self : goal.invariant_of-self
invariant_of-self g c = let e = not_spent_loads _ _ _ _ c.in_err-spend.ensures.err in kept_loads _ c.self.invariant e.0 _ e.1

pub returns-in_err-spend-clause-kept : goal.returns-in_err-spend-clause-kept
returns-in_err-spend-clause-kept g c = invariant_of-self g c

pub invariant_of-self-in_default : goal.invariant_of-self-in_default
invariant_of-self-in_default g c =
    kept_back _ c.self.invariant _ _ _ _ refl (is_given_back _ _ _ _ _ c.in_ok-spend.ensures.ok c.give_back.ensures.makes c.give_back.ensures.after)

pub returns-in_default-clause-kept : goal.returns-in_default-clause-kept
returns-in_default-clause-kept g c = invariant_of-self-in_default g c

pub invariant_of-self-in_err-put_used : goal.invariant_of-self-in_err-put_used
invariant_of-self-in_err-put_used g c =
    let e = c.in_err-put_used.ensures in
    kept_back _ c.self.invariant _ _ _ _ e.unput (is_given_back _ _ _ _ _ c.in_ok-spend.ensures.ok e.makes e.given_back)

pub returns-in_err-put_used-clause-kept : goal.returns-in_err-put_used-clause-kept
returns-in_err-put_used-clause-kept g c = invariant_of-self-in_err-put_used g c

pub invariant_of-self-2 : goal.invariant_of-self-2
invariant_of-self-2 g c =
    let e = c.in_ok-put_used.ensures in
    kept_sent _ c.self.invariant _ c.from_vec.result _ _ _ c.in_ok-check_open.ensures.unfinished (search rules) (ap (λ (v : Version). message_refusal v c.self.inside.send_left (length c.args.body.now)) (sym c.version.ensures) ∙ sym c.in_ok-left.ensures.answer) e.put c.in_ok-left.ensures.value (is_counted _ _ _ _ _ c.in_ok-spend.ensures.ok e.counted)

pub returns-clause-kept : goal.returns-clause-kept
returns-clause-kept g c = invariant_of-self-2 g c

pub returns-clause-ok : goal.returns-clause-ok
returns-clause-ok g c = search rules
