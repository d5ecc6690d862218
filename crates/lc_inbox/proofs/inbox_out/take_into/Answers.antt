use Rattle.std.proofs.Common.{◌≡◌, None, Some, IfSome, sym, subst, ◌++◌, length}
use Rattle.lc_peer.specs.Inbox.{take_refusal}
use Rattle.lc_inbox.specs.Ends.{Held}
use Rattle.lc_inbox.specs.History.{IsLeftBy}
use Rattle.lc_inbox.specs.Lends.{first_taken}
use Rattle.lc_inbox.specs.Loans.{loan_with}
use Rattle.lc_inbox.proofs.Calls.{gave, found, fits, left_first, taken_by, looked, says}
use Rattle.lc_inbox.proofs.inbox_out.take_into.Goals as goal

pub give_first-requires-clause-fits : goal.give_first-requires-clause-fits
give_first-requires-clause-fits g c =
    let left = found _ _ c.take-turn.ensures _ c.inbox-end.ensures.value in
    fits _ _ c.take-turn.ensures _ _ (subst (λ (h : Held). IsLeftBy c.args.half.now.key c.take_into.new.self (c.take-turn.ensures.loan.history ++ first_taken h)) (sym c.of-before.ensures) (left_first _ _ _ _ left c.in-Ok.ensures.after))

pub returns-in-Ok-clause-ok : goal.returns-in-Ok-clause-ok
returns-in-Ok-clause-ok g c =
    let t = c.take-turn.ensures in
    let left = found _ _ t _ c.inbox-end.ensures.value in
    let gives = subst (λ (h : Held). IfSome (loan_with c.take-turn.new.self.lent c.take_into.new.self) (λ loan. c.give_first.new.half ≡ record c.take-turn.new.self { seen = loan.history ++ first_taken h; lent = None })) c.of-before.ensures c.give_first.ensures in
    taken_by c.in-Ok.take _ _ c.args.half.now c.give_first.new.half t.loan.history c.inbox-end.result.now c.in-Ok.ensures.value c.in-Ok.ensures.buffer c.requires.idle.side_is t.knows left
    (gave c.args.half.now c.take-turn.new.self c.give_first.new.half t _ (first_taken c.inbox-end.result.now) gives)

pub returns-clause-err : goal.returns-clause-err
returns-clause-err g c =
    let t = c.take-turn.ensures in
    record {
      looks = looked c.args.half.now c.take-turn.new.self c.give_same.new.self t _ c.requires.idle.side_is c.give_same.ensures;
      refusal = says (λ h. take_refusal h.inbox (length c.args.buffer.now) ≡ Some c.in-Err.refusal) c.args.half.now c.take-turn.new.self c.give_same.new.self t _ c.inbox-end.result.now c.inbox-end.ensures.value c.give_same.ensures (sym c.in-Err.ensures.answer);
      same = c.in-Err.ensures.buffer;
    }
