use Rattle.std.proofs.Common.{sym, ◌∙◌}
use Rattle.lc_play.proofs.Handed.{of_done, lists_at}
use Rattle.lc_play.proofs.exports.lcmux_play_frames.Goals as goal

pub returns-clause-lists : goal.returns-clause-lists
returns-clause-lists c zeroes =
    let (is, text) = c.finish.ensures.done zeroes in
    let done = of_done _ _ is c.list_frames-done.ensures in
    lists_at _ _ _ _ _ c.new-shown.ensures.items (sym c.as_slice.ensures.value ∙ sym text) done
