use Rattle.std.proofs.Common.{◌≡◌, ◌++◌, length}
use Rattle.std.specs.List.{AllZip}
use Rattle.std.specs.Array.Iter.{array_into_iter_items}
use Rattle.lc_inbox.specs.Inboxes.{IsNewShared}
use Rattle.lc_inbox.proofs.inboxes.share_each.Given as goal

abbrev pub invariant-loop-lane : goal.invariant-loop-lane
invariant-loop-lane l =
    record {
      made : AllZip (IsNewShared l.fn.capacities) l.yielded l.all.items;
      count : l.all.len ≡ length l.yielded;
      rest : l.yielded ++ array_into_iter_items l.lane-iterator ≡ l.fn.lanes;
    }
