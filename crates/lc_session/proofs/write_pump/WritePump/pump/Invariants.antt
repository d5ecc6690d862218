use Rattle.lc_session.specs.Pumping.{Pumps}
use Rattle.lc_driver.proofs.Counting.{NoneTold}
use Rattle.lc_session.proofs.write_pump.WritePump.pump.Given as goal

abbrev pub invariant-turns : goal.invariant-turns
invariant-turns g l = record {
  pumps : Pumps (g.W.Write.contents l.initial.writer) (g.W.Write.contents l.writer) l.initial.self l.self;
  counts : NoneTold (g.W.Failures.counts l.initial.writer) (g.W.Failures.counts l.writer);
}
