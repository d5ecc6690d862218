use Rattle.lc_session.proofs.Ended.{PopsSome}
use Rattle.lc_session.proofs.report.pop_all.Given as goal

abbrev pub invariant-frames : goal.invariant-frames
invariant-frames g l = PopsSome l.fn.waiting l.left l.fn.drain l.drain
