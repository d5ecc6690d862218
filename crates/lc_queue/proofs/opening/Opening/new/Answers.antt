use Rattle.lc_queue.proofs.Moves.{begins, cuts_first_as}
use Rattle.lc_queue.proofs.opening.Opening.new.Goals as goal

pub ruled-requires-clause-rule : goal.ruled-requires-clause-rule
ruled-requires-clause-rule g c = begins

pub another-first-requires-clause-rule : goal.another-first-requires-clause-rule
another-first-requires-clause-rule g c = cuts_first_as _ _ _ c.in_ok-queue.ensures.3
