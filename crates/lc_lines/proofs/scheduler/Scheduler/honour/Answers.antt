use Rattle.std.proofs.Common.{◌≡◌, None, ap, sym, ◌∙◌, subst}
use Rattle.std.specs.Prelude.{is_ok}
use Rattle.std.specs.Result.{result_err}
use Rattle.lc_lines.specs.Scheduler.{SchedulerState, honour_refusal}
use Rattle.lc_peer.specs.Calls.{honour_refusal as peer_honour_refusal}
use Rattle.lc_lines.proofs.Accepted.{accepted_honour}
use Rattle.lc_lines.proofs.Fields.{honour_fields}
use Rattle.lc_lines.proofs.scheduler.Scheduler.honour.Goals as goal

pub returns-clause-answer : goal.returns-clause-answer
returns-clause-answer c =
    let none : honour_refusal c.args.self.now c.args.channel ≡ None = sym c.judge_honour.ensures ∙ ap (λ r. result_err r) c.in_ok-judge_honour.was in
    let accepted = accepted_honour c.args.self.now c.args.channel none in
    let is = subst (λ (s : SchedulerState). result_err c.honour.result ≡ peer_honour_refusal s.peer c.args.channel) c.self.view_is c.honour.ensures.answer in
    is ∙ (accepted ∙ sym none)

pub invariant_of-self : goal.invariant_of-self
invariant_of-self c =
    let none : honour_refusal c.args.self.now c.args.channel ≡ None = sym c.judge_honour.ensures ∙ ap (λ r. result_err r) c.in_ok-judge_honour.was in
    let none_inside = subst (λ (s : SchedulerState). honour_refusal s c.args.channel ≡ None) (sym c.self.view_is) none in
    honour_fields (is_ok c.honour.result) c.self.inside.peer c.honour.new.self c.args.channel c.self.inside.queues c.self.inside.asides c.self.inside.sent c.self.inside.begun c.self.inside.exempt c.self.inside.left c.self.inside.counts c.honour.ensures.after none_inside c.self.invariant
