use Rattle.std.proofs.Common.{sym, ap}
use Rattle.lc_frame.specs.declared.frame.Frame.{Frame}
use Rattle.lc_frame.specs.declared.frame.Frame.TheVariants.{Send}
use Rattle.lc_frame.specs.Channel.{number_of}
use Rattle.lc_inbox.proofs.Histories.{left_refused}
use Rattle.lc_inbox.proofs.Calls.{gave, found, fits, may_refuse, wrong_as, refuses, left_capacity, wrong_length}
use Rattle.lc_inbox.proofs.inbox_in.refuse.Goals as goal

pub refuse-violation-requires-clause-longer : goal.refuse-violation-requires-clause-longer
refuse-violation-requires-clause-longer g c =
    let left = found _ _ c.take-turn.ensures _ c.inbox.ensures.value in
    left_capacity _ _ _ _ left c.requires.longer

pub give_unkept-requires-clause-fits : goal.give_unkept-requires-clause-fits
give_unkept-requires-clause-fits g c =
    let f : Frame = Send c.args.channel c.args.body.now.bytes in
    let left = found _ _ c.take-turn.ensures _ c.inbox.ensures.value in
    let wrong = wrong_length c.args.channel c.args.body.now.bytes c.inbox.result.now.inbox.book _ _ c.requires.all c.refuse-violation.ensures in
    fits _ _ c.take-turn.ensures _ _ (left_refused _ _ _ _ left (may_refuse _ _ _ f _ left (ap number_of (sym c.requires.channel)) wrong))

pub returns-clause-refused : goal.returns-clause-refused
returns-clause-refused g c =
    let t = c.take-turn.ensures in
    let f : Frame = Send c.args.channel c.args.body.now.bytes in
    let left = found _ _ t _ c.inbox.ensures.value in
    let wrong = wrong_length c.args.channel c.args.body.now.bytes c.inbox.result.now.inbox.book _ _ c.requires.all c.refuse-violation.ensures in
    let may = may_refuse _ _ _ f _ left (ap number_of (sym c.requires.channel)) wrong in
    refuses c.args.half.now c.give_unkept.new.half t.loan.history f _ c.requires.idle.side_is t.knows left.legal may (wrong_as _ _ _ f _ left wrong) (gave c.args.half.now c.take-turn.new.self c.give_unkept.new.half t _ _ c.give_unkept.ensures)
