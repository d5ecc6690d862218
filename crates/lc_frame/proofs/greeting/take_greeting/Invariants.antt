use Rattle.std.proofs.Common.{◌≡◌, ◌-◌, ◌≤◌, ◌++◌, length, take}
use Rattle.lc_frame.specs.Version.{IsGreetingPart}
use Rattle.lc_frame.proofs.greeting.take_greeting.Given as goal

abbrev pub invariant-bytes : goal.invariant-bytes
invariant-bytes l = record {
  part : IsGreetingPart l.buffer;
  within : l.taken ≤ length l.piece;
  held : l.buffer ≡ l.initial.buffer ++ take l.taken l.piece;
}

abbrev pub decreases-bytes : goal.decreases-bytes
decreases-bytes l = length l.piece - l.taken
