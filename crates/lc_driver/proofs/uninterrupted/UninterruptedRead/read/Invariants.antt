use Rattle.std.specs.Io.KnownBytes.{Keeps}
use Rattle.lc_driver.proofs.Tries.{Interruptions}
use Rattle.lc_driver.proofs.uninterrupted.UninterruptedRead.read.Given as goal

abbrev pub invariant-tries : goal.invariant-tries
invariant-tries g l = record {
  tries : Interruptions g.T.ReadDevice.reads (l.fn.self.inner, l.fn.buf) (l.self.inner, l.buf) l.counter;
  kept : Keeps (g.T.Read.remaining l.fn.self.inner) (g.T.Read.remaining l.self.inner);
}
