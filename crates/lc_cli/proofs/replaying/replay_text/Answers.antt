use Rattle.std.proofs.Common.{ap, sym, length, ◌∙◌}
use Rattle.lc_cli.proofs.Scripts.{once_done, same_history}
use Rattle.lc_cli.proofs.replaying.replay_text.Goals as goal

pub returns-clause-prints : goal.returns-clause-prints
returns-clause-prints g c = once_done c.put_answers.result (λ printed. record {
  events = c.in_ok-events.events.items;
  are = c.in_ok-events.ensures.events;
  answers = c.as_slice-2.result.now;
  count = ap length c.as_slice-2.ensures.value ∙ c.in_ok-answers.ensures.count ∙ ap length c.as_slice.ensures.value;
  legal = same_history _ _ _ _ _ _ c.as_slice.ensures.value (sym c.as_slice-2.ensures.value) c.in_ok-answers.ensures.legal;
  printed = printed;
}) c.put_answers.ensures.prints
