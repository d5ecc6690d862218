use Rattle.std.proofs.Common.{◌≡◌}
use Rattle.lc_queue.proofs.Ends.{first_ends}
use Rattle.lc_queue.proofs.opening.Opening.ends.Given as goal

abbrev pub invariant-loop-lane : goal.invariant-loop-lane
invariant-loop-lane l =
    record {
      made : l.ends.items ≡ first_ends l.fn.self.queue l.fn.self.version l.lane;
      count : l.ends.len ≡ l.lane;
      next : l.self ≡ record l.fn.self { next = l.lane };
    }
