use Rattle.std.proofs.Common.{ℕ, List, sym, ap, ◌∙◌}
use Rattle.lc_world.specs.declared.event.Act.TheVariants.{Send}
use Rattle.lc_world.proofs.Answered.{send_called, issue_called, plead_called, absolve_called, honour_called, limit_sending_called, limit_receiving_called, finish_called}
use Rattle.lc_world.proofs.act.call.Goals as goal

pub returns-in-Issue : goal.returns-in-Issue
returns-in-Issue c = issue_called c.args.peer.now c.issue.new.self c.requires.free c.issue.result c.judged-in-Issue.result c.judged-in-Issue.ensures c.args.act.now c.args.channel c.in-Issue.channel c.in-Issue.amount c.in-Issue.is c.requires.own c.issue.ensures.answer c.issue.ensures.after

pub returns-in-Plead : goal.returns-in-Plead
returns-in-Plead c = plead_called c.args.peer.now c.plead.new.self c.requires.free c.plead.result c.judged-in-Plead.result c.judged-in-Plead.ensures c.args.act.now c.args.channel c.in-Plead.channel c.in-Plead.target c.in-Plead.is c.requires.own c.plead.ensures.answer c.plead.ensures.after

pub returns-in-Absolve : goal.returns-in-Absolve
returns-in-Absolve c = absolve_called c.args.peer.now c.absolve.new.self c.requires.free c.absolve.result c.judged-in-Absolve.result c.judged-in-Absolve.ensures c.args.act.now c.args.channel c.in-Absolve.channel c.in-Absolve.amount c.in-Absolve.is c.requires.own c.absolve.ensures.answer c.absolve.ensures.after

pub returns-in-LimitSending : goal.returns-in-LimitSending
returns-in-LimitSending c = limit_sending_called c.args.peer.now c.limit_sending.new.self c.requires.free c.limit_sending.result c.judged-in-LimitSending.result c.judged-in-LimitSending.ensures c.args.act.now c.args.channel c.in-LimitSending.channel c.in-LimitSending.bound c.in-LimitSending.is c.requires.own c.limit_sending.ensures.answer c.limit_sending.ensures.after

pub returns-in-LimitReceiving : goal.returns-in-LimitReceiving
returns-in-LimitReceiving c = limit_receiving_called c.args.peer.now c.limit_receiving.new.self c.requires.free c.limit_receiving.result c.judged-in-LimitReceiving.result c.judged-in-LimitReceiving.ensures c.args.act.now c.args.channel c.in-LimitReceiving.channel c.in-LimitReceiving.bound c.in-LimitReceiving.is c.requires.own c.limit_receiving.ensures.answer c.limit_receiving.ensures.after

pub returns-in-Finish : goal.returns-in-Finish
returns-in-Finish c = finish_called c.args.peer.now c.finish.new.self c.requires.free c.finish.result c.judged-in-Finish.result c.judged-in-Finish.ensures c.args.act.now c.args.channel c.in-Finish.channel c.in-Finish.is c.requires.own c.finish.ensures.answer c.finish.ensures.after

pub returns-in-Send : goal.returns-in-Send
returns-in-Send c = send_called c.args.peer.now c.send.new.self c.requires.free c.send.result c.judged.result c.judged.ensures c.args.act.now c.args.channel c.in-Send.channel c.as_slice.result.now (c.in-Send.is ∙ ap (λ (x : List ℕ). Send c.in-Send.channel x) (sym c.as_slice.ensures)) c.requires.own c.send.ensures.answer c.send.ensures.after

pub returns-in-Honour : goal.returns-in-Honour
returns-in-Honour c = honour_called c.args.peer.now c.honour.new.self c.requires.free c.args.channel c.honour.result c.args.act.now c.in-Honour.channel c.honoured.result c.in-Honour.is c.requires.own c.honoured.ensures c.honour.ensures.answer c.honour.ensures.amount c.honour.ensures.after
