use Rattle.std.proofs.Common.{◌≡◌, ◌+◌, ◌*◌, ◌≤◌, length}
use Rattle.lc_driver.proofs.Counting.{NoneTold}
use Rattle.lc_driver.specs.Writing.{Writes, text}
use Rattle.lc_driver.proofs.writing.write_out.Given as goal

abbrev pub invariant-batches : goal.invariant-batches
invariant-batches g l = record {
  small : l.written + length (text l.initial.outgo.version l.outgo.pending l.peer.waiting) ≤ 1048581 * 65537;
  version : l.outgo.version ≡ l.initial.outgo.version;
  peer_version : l.peer.version ≡ l.initial.outgo.version;
  writes : Writes l.initial.outgo.version (g.W.Write.contents l.initial.writer) (g.W.Write.contents l.writer) l.initial.outgo.pending l.initial.peer l.outgo.pending l.peer l.written;
  counts : NoneTold (g.W.Failures.counts l.initial.writer) (g.W.Failures.counts l.writer);
  untouched : length (text l.initial.outgo.version l.initial.outgo.pending l.initial.peer.waiting) ≡ 0 → l.writer ≡ l.initial.writer;
}

abbrev pub decreases-batches : goal.decreases-batches
decreases-batches g l = length (text l.initial.outgo.version l.outgo.pending l.peer.waiting)
