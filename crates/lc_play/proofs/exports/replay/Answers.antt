use Rattle.std.proofs.Common.{ap, sym, length, ◌∙◌}
use Rattle.lc_play.proofs.Handed.{of_done, of_bad, replays_at}
use Rattle.lc_play.proofs.exports.replay.Goals as goal

pub returns-clause-replays : goal.returns-clause-replays
returns-clause-replays c zeroes =
    let (is, text) = c.finish.ensures.done zeroes in
    let done = of_done _ _ is c.replay_text-done.ensures.prints in
    replays_at _ _ _ _ _ _ _ c.new-shown.ensures.items (sym c.as_slice.ensures.value ∙ sym text) done

pub returns-clause-bad : goal.returns-clause-bad
returns-clause-bad c two =
    let (bad, len) = c.finish.ensures.bad two in
    let same = of_bad _ _ _ bad c.replay_text-done.ensures.bad in
    len ∙ ap length (c.as_slice.ensures.value ∙ ap (λ v. v.items) same ∙ c.new-shown.ensures.items)
