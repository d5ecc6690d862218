use Rattle.std.proofs.Common.{◌≡◌, ◌-◌, ◌≤◌, ◌++◌, length, take, drop}
use Rattle.lc_c.specs.Streams.{text, GivesOut}
use Rattle.lc_c.proofs.streams.give.Given as goal

abbrev pub invariant-frames : goal.invariant-frames
invariant-frames l = record {
  within : l.done ≤ length l.initial.out;
  written : l.out ≡ take l.done (text l.initial.side) ++ drop l.done l.initial.out;
  gives : GivesOut l.done l.initial.side l.side;
}

abbrev pub decreases-frames : goal.decreases-frames
decreases-frames l = length l.initial.out - l.done
