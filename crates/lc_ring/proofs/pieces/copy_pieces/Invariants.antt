-- The bytes so far are copied.
use Rattle.std.proofs.Common.{◌≡◌, ◌-◌, ◌≤◌, length, take}
use Rattle.lc_ring.proofs.pieces.copy_pieces.Given as goal

abbrev pub invariant-pieces : goal.invariant-pieces
invariant-pieces l = record {
  within : l.done ≤ length l.bytes;
  same : length l.place ≡ length l.bytes;
  copied : take l.done l.place ≡ take l.done l.bytes;
}

abbrev pub decreases-pieces : goal.decreases-pieces
decreases-pieces l = length l.bytes - l.done
