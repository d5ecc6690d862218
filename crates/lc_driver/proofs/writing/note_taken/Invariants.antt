use Rattle.std.proofs.Common.{◌≡◌, length}
use Rattle.lc_driver.specs.Writing.{IsAhead, LetsGo}
use Rattle.lc_driver.proofs.writing.note_taken.Given as goal

abbrev pub invariant-frames : goal.invariant-frames
invariant-frames l = record {
  version : l.peer.version ≡ l.fn.outgo.version;
  ahead : IsAhead l.fn.outgo.version l.end l.fn.outgo.pending l.peer.waiting;
  gone : LetsGo l.fn.outgo.version l.fn.outgo.pending l.fn.begun l.taken l.end l.fn.peer l.peer;
}

abbrev pub decreases-frames : goal.decreases-frames
decreases-frames l = length l.peer.waiting
