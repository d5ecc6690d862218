use Rattle.std.proofs.Common.{◌≡◌, ◌+◌, ◌-◌, ◌≤◌, length, take}
use Rattle.std.specs.Io.KnownBytes.{Appends}
use Rattle.lc_driver.proofs.Counting.{NoneTold}
use Rattle.lc_driver.proofs.writing.write_all.Given as goal

abbrev pub invariant-writes : goal.invariant-writes
invariant-writes g l = record {
  within : l.done ≤ length l.bytes;
  grown : Appends (g.W.Write.contents l.initial.writer) (g.W.Write.contents l.writer) (take l.done l.bytes);
  counts : NoneTold (g.W.Failures.counts l.initial.writer) (g.W.Failures.counts l.writer);
  calls : (g.W.Failures.counts l.writer).calls ≤ (g.W.Failures.counts l.initial.writer).calls + l.done;
  untouched : length l.bytes ≡ 0 → l.writer ≡ l.initial.writer;
}

abbrev pub decreases-writes : goal.decreases-writes
decreases-writes g l = length l.bytes - l.done
