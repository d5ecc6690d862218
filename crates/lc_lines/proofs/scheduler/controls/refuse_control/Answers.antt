use Rattle.std.proofs.Common.{length}
use Rattle.std.specs.Prelude.{nat_lt}
use Rattle.lc_peer.specs.Calls.{refusal_by_books}
use Rattle.lc_lines.specs.Scheduler.{frame_of_control}
use Rattle.lc_lines.proofs.Fields.{full_err}
use Rattle.lc_lines.proofs.scheduler.controls.refuse_control.Goals as goal

pub returns-in-Err : goal.returns-in-Err
returns-in-Err c =
    let p = c.args.peer.now in
    full_err c.in-Err.refusal (refusal_by_books p (frame_of_control c.args.control)) (nat_lt (length p.waiting) p.slots) c.in-Err.ensures
