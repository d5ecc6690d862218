use Rattle.std.proofs.Common.{sym, subst, ◌++◌, ◌∷◌, []}
use Rattle.lc_frame.specs.FrameRef.{frame_of}
use Rattle.lc_inbox.specs.declared.history.Entry.TheVariants.{Refused}
use Rattle.lc_inbox.specs.History.{IsLeftBy}
use Rattle.lc_inbox.proofs.Histories.{left_heard, left_refused}
use Rattle.lc_inbox.proofs.Calls.{gave, found, fits, may_hear, may_refuse, wrong_as, hears, refuses}
use Rattle.lc_inbox.proofs.inbox_in.arrive.Goals as goal

pub give_heard-requires-clause-fits : goal.give_heard-requires-clause-fits
give_heard-requires-clause-fits g c =
    let left = found _ _ c.take-turn.ensures _ c.inbox.ensures.value in
    fits _ _ c.take-turn.ensures _ _ (left_heard _ _ _ _ _ left (may_hear _ _ _ _ left c.requires.lane c.in-Ok.ensures.answer) c.in-Ok.ensures.after)

pub give_refused-requires-clause-fits : goal.give_refused-requires-clause-fits
give_refused-requires-clause-fits g c =
    let left = found _ _ c.take-turn.ensures _ c.inbox.ensures.value in
    fits _ _ c.take-turn.ensures _ _ (subst (λ h. IsLeftBy c.args.half.now.key h (c.take-turn.ensures.loan.history ++ Refused (frame_of c.args.frame) ∷ [])) (sym c.in-Err.ensures.after)
    (left_refused _ _ _ _ left (may_refuse _ _ _ _ _ left c.requires.lane c.in-Err.ensures.answer)))

pub returns-in-Ok-clause-ok : goal.returns-in-Ok-clause-ok
returns-in-Ok-clause-ok g c =
    let t = c.take-turn.ensures in
    let left = found _ _ t _ c.inbox.ensures.value in
    hears c.args.half.now c.give_heard.new.half t.loan.history _ c.requires.idle.side_is t.knows left.legal (may_hear _ _ _ _ left c.requires.lane c.in-Ok.ensures.answer) (gave c.args.half.now c.take-turn.new.self c.give_heard.new.half t _ _ c.give_heard.ensures)

pub returns-in-Err-clause-err : goal.returns-in-Err-clause-err
returns-in-Err-clause-err g c =
    let t = c.take-turn.ensures in
    let left = found _ _ t _ c.inbox.ensures.value in
    let may = may_refuse _ _ _ _ _ left c.requires.lane c.in-Err.ensures.answer in
    refuses c.args.half.now c.give_refused.new.half t.loan.history _ _ c.requires.idle.side_is t.knows left.legal may (wrong_as _ _ _ _ _ left c.in-Err.ensures.answer) (gave c.args.half.now c.take-turn.new.self c.give_refused.new.half t _ _ c.give_refused.ensures)
