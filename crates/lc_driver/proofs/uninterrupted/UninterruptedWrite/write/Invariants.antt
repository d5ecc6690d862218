use Rattle.std.specs.Io.KnownBytes.{Keeps}
use Rattle.lc_driver.proofs.Tries.{Interruptions}
use Rattle.lc_driver.proofs.uninterrupted.UninterruptedWrite.write.Given as goal

abbrev pub invariant-tries : goal.invariant-tries
invariant-tries g l = record {
  tries : Interruptions (g.T.WriteDevice.writes l.buf) l.fn.self.inner l.self.inner l.counter;
  kept : Keeps (g.T.Write.contents l.fn.self.inner) (g.T.Write.contents l.self.inner);
}
