use Rattle.std.proofs.Common.{◌≡◌, ◌∷◌, [], ◌++◌, None, IfSome, sym, subst}
use Rattle.lc_frame.specs.declared.frame.Frame.{Frame}
use Rattle.lc_inbox.specs.declared.history.Entry.TheVariants.{Put}
use Rattle.lc_inbox.specs.Ends.{IsReason}
use Rattle.lc_inbox.specs.History.{IsLeftBy}
use Rattle.lc_inbox.specs.Loans.{loan_with}
use Rattle.lc_inbox.proofs.Histories.{left_put}
use Rattle.lc_inbox.proofs.Calls.{gave, found, fits, may_put, puts, looked, says}
use Rattle.lc_inbox.proofs.inbox_out.put.Goals as goal

pub give_put-requires-clause-fits : goal.give_put-requires-clause-fits
give_put-requires-clause-fits g c =
    let left = found _ _ c.take-turn.ensures _ c.inbox.ensures.value in
    let put = c.in-Ok.ensures.ok in
    fits _ _ c.take-turn.ensures _ _ (subst (λ (f : Frame). IsLeftBy c.args.half.now.key c.put.new.self (c.take-turn.ensures.loan.history ++ Put f ∷ [])) (sym c.of-told.ensures) (left_put _ _ _ _ _ left (may_put _ _ _ _ _ left c.requires.lane.0 put) put.after))

pub returns-in-Ok-clause-ok : goal.returns-in-Ok-clause-ok
returns-in-Ok-clause-ok g c =
    let t = c.take-turn.ensures in
    let left = found _ _ t _ c.inbox.ensures.value in
    let gives = subst (λ (f : Frame). IfSome (loan_with c.take-turn.new.self.lent c.put.new.self) (λ loan. c.give_put.new.half ≡ record c.take-turn.new.self { seen = loan.history ++ Put f ∷ []; lent = None })) c.of-told.ensures c.give_put.ensures in
    puts c.args.half.now c.give_put.new.half t.loan.history _ _ _ c.requires.idle.side_is t.knows left c.requires.lane.0 c.in-Ok.ensures.ok (gave c.args.half.now c.take-turn.new.self c.give_put.new.half t _ _ gives)

pub returns-clause-err : goal.returns-clause-err
returns-clause-err g c =
    let t = c.take-turn.ensures in
    record {
      looks = looked c.args.half.now c.take-turn.new.self c.give_same.new.self t _ c.requires.idle.side_is c.give_same.ensures;
      reason = says (IsReason c.in-Err.refusal c.args.frame) c.args.half.now c.take-turn.new.self c.give_same.new.self t _ c.inbox.result.now c.inbox.ensures.value c.give_same.ensures c.in-Err.ensures.err.reason;
    }
