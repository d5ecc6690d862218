use Rattle.std.proofs.Common.{◌≡◌, None, IfSome, sym, subst, ◌++◌}
use Rattle.lc_inbox.specs.Ends.{Held}
use Rattle.lc_inbox.specs.History.{IsLeftBy}
use Rattle.lc_inbox.specs.Lends.{first_taken}
use Rattle.lc_inbox.specs.Loans.{loan_with}
use Rattle.lc_inbox.proofs.Calls.{gave, found, fits, left_first, lent_by}
use Rattle.lc_inbox.proofs.inbox_out.take_with.Goals as goal

pub give_first-requires-clause-fits : goal.give_first-requires-clause-fits
give_first-requires-clause-fits g c =
    let left = found _ _ c.take-turn.ensures _ c.inbox-end.ensures.value in
    fits _ _ c.take-turn.ensures _ _ (subst (λ (h : Held). IsLeftBy c.args.half.now.key c.take_with-lent.new.self (c.take-turn.ensures.loan.history ++ first_taken h)) (sym c.of-before.ensures) (left_first _ _ _ _ left c.take_with-lent.ensures.after))

pub returns-clause-answer : goal.returns-clause-answer
returns-clause-answer g c =
    let t = c.take-turn.ensures in
    let left = found _ _ t _ c.inbox-end.ensures.value in
    let gives = subst (λ (h : Held). IfSome (loan_with c.take-turn.new.self.lent c.take_with-lent.new.self) (λ loan. c.give_first.new.half ≡ record c.take-turn.new.self { seen = loan.history ++ first_taken h; lent = None })) c.of-before.ensures c.give_first.ensures in
    lent_by g.F.FnOnce c.args.read c.take_with-lent.result c.args.half.now c.give_first.new.half t.loan.history c.inbox-end.result.now c.take_with-lent.ensures.answer c.requires.idle.side_is t.knows left
    (gave c.args.half.now c.take-turn.new.self c.give_first.new.half t _ (first_taken c.inbox-end.result.now) gives)
