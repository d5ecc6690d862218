use Rattle.std.proofs.Common.{◌≡◌, ◌∙◌, None, length, subst}
use Rattle.lc_lines.specs.Scheduler.{SchedulerState, IsWithinPermit, reserved_refusal}
use Rattle.lc_lines.proofs.Allowed.{permit_is_honoured}
use Rattle.lc_lines.proofs.scheduler.Scheduler.send_reserved.Goals as goal

pub returns-in_err-judge_reserved-clause-honoured : goal.returns-in_err-judge_reserved-clause-honoured
returns-in_err-judge_reserved-clause-honoured c = λ is.
    let old : SchedulerState = record { peer = c.self.inside.peer; queues = c.self.inside.queues; asides = c.self.inside.asides; sent = c.self.inside.sent; begun = c.self.inside.begun; exempt = c.self.inside.exempt; left = c.self.inside.left } in
    let n = length c.args.body.now in
    let none = subst (λ (s : SchedulerState). IsWithinPermit s c.args.channel c.args.len n → reserved_refusal s c.args.channel c.args.len n ≡ None) c.self.view_is (permit_is_honoured old c.args.channel c.args.len n c.self.invariant.guarantees c.self.invariant.allowed) in
    let gone = c.in_err-judge_reserved.ensures.answer ∙ none is in
    cc
