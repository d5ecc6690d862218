use Rattle.lc_queue.proofs.Moves.{cuts_as}
use Rattle.lc_queue.proofs.opening.Opening.next_lane.Goals as goal

pub another-pass-requires-clause-rule : goal.another-pass-requires-clause-rule
another-pass-requires-clause-rule c = cuts_as _ _ _ _ _ _ c.self.invariant.1
