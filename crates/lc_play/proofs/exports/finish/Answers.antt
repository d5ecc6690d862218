use Rattle.std.proofs.Common.{arith}
use Rattle.lc_play.proofs.Handed.{told_done, told_bad, handed, handed_short}
use Rattle.lc_play.proofs.exports.finish.Goals as goal

pub returns-clause-done : goal.returns-clause-done
returns-clause-done c zeroes =
    let (status, text) = handed _ _ 0 _ _ _ _ c.hand_out.ensures (omega arith) zeroes in
    (told_done _ _ c.tell-status.ensures status, text)

pub returns-clause-bad : goal.returns-clause-bad
returns-clause-bad c two =
    let (status, text) = handed _ _ 2 _ _ _ _ c.hand_out.ensures (omega arith) two in
    (told_bad _ _ c.tell-status.ensures status, c.hand_out.ensures.shown_len)

pub returns-clause-short : goal.returns-clause-short
returns-clause-short c = handed_short _ _ _ _ _ _ c.hand_out.ensures
