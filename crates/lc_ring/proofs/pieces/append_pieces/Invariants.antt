-- The bytes so far are appended.
use Rattle.std.proofs.Common.{◌≡◌, ◌-◌, ◌≤◌, ◌++◌, length, take, vec_capacity}
use Rattle.lc_ring.proofs.pieces.append_pieces.Given as goal

abbrev pub invariant-pieces : goal.invariant-pieces
invariant-pieces l = record {
  within : l.done ≤ length l.bytes;
  appended : l.block.items ≡ l.initial.block.items ++ take l.done l.bytes;
  capacity : vec_capacity l.initial.block ≤ vec_capacity l.block;
}

abbrev pub decreases-pieces : goal.decreases-pieces
decreases-pieces l = length l.bytes - l.done
