use Rattle.std.proofs.Common.{refl, sym, ◌∙◌}
use Rattle.lc_world.proofs.Takes.{took_acts, empty_acts, ended_acts, none_took, take_refused}
use Rattle.lc_world.proofs.act.take.Goals as goal

pub returns-in-Some : goal.returns-in-Some
returns-in-Some c = took_acts c.args.me.now c.args.peer.now c.requires c.args.channel _ c.in-Some.body (sym c.in-Some.is ∙ c.in-Ok.ensures.value) c.pop-take.ensures.after refl refl refl

pub returns-in-Empty : goal.returns-in-Empty
returns-in-Empty c = empty_acts c.args.me.now c.args.peer.now c.requires c.args.channel _ (sym c.in-None.is ∙ c.in-Ok.ensures.value) (sym c.in-Empty.is ∙ c.pop-take.ensures.answer) c.pop-take.ensures.after refl refl refl

pub returns-in-Ended : goal.returns-in-Ended
returns-in-Ended c = ended_acts c.args.me.now c.args.peer.now c.requires c.args.channel _ (sym c.in-None.is ∙ c.in-Ok.ensures.value) (sym c.in-Ended.is ∙ c.pop-take.ensures.answer) c.pop-take.ensures.after refl refl refl

pub unreachable-requires : goal.unreachable-requires
unreachable-requires c = none_took c.args.me.now c.args.peer.now c.requires c.args.channel c.in-Took.field-0 (sym c.in-None.is ∙ c.in-Ok.ensures.value) (sym c.in-Took.is ∙ c.pop-take.ensures.answer)

pub returns-in-Err : goal.returns-in-Err
returns-in-Err c = take_refused c.args.me.now c.args.peer.now c.requires c.args.channel c.in-Err.ensures.err
