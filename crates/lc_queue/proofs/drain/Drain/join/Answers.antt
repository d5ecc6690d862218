use Rattle.std.proofs.Common.{rules}
use Rattle.lc_queue.proofs.Moves.{merges_as}
use Rattle.lc_queue.proofs.drain.Drain.join.Goals as goal

pub absorb-requires-clause-rule : goal.absorb-requires-clause-rule
absorb-requires-clause-rule c = merges_as _ _ _ _ _ _ _ _ _ _ _ c.self.invariant.1 c.end.invariant.1

pub returns-clause-after : goal.returns-clause-after
returns-clause-after c = search rules
