use Rattle.std.proofs.Common.{◌≡◌}
use Rattle.lc_driver.specs.Counts.{count_on}
use Rattle.lc_driver.proofs.Counting.{NoneTold}
use Rattle.lc_driver.proofs.Arrived.{SoFar}
use Rattle.lc_driver.proofs.reading.read_into.Given as goal

abbrev pub invariant-reads : goal.invariant-reads
invariant-reads g l = record {
  so_far : SoFar g.S.FrameSink.arrived (g.R.Read.remaining l.fn.reader) (g.R.Read.remaining l.reader) (g.I.IntakeFor.state l.fn.intake).held l.fn.sink (g.I.IntakeFor.state l.intake) l.sink l.counter;
  counts : NoneTold (g.R.Failures.counts l.fn.reader) (g.R.Failures.counts l.reader);
  calls : (g.R.Failures.counts l.reader).calls ≡ count_on l.counter (g.R.Failures.counts l.fn.reader).calls;
  suits : g.I.IntakeFor.suits (g.I.IntakeFor.state l.intake).rings l.sink;
  rings : (g.I.IntakeFor.state l.intake).rings ≡ (g.I.IntakeFor.state l.fn.intake).rings;
}
