use Rattle.std.proofs.Common.{rules}
use Rattle.lc_ring.proofs.Cuts.{first_is_message}
use Rattle.lc_ring.proofs.ring.RecvRing.take_into.Goals as goal

pub returns-clause-after : goal.returns-clause-after
returns-clause-after c = search rules

pub returns-then-buffer-need-clause-need : goal.returns-then-buffer-need-clause-need
returns-then-buffer-need-clause-need c = first_is_message c.args.self.now c.in-Some.message.now c.bytes-bytes.ensures.kept c.in-Some.ensures
