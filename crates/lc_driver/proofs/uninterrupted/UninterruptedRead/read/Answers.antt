use Rattle.std.proofs.Common.{rules, arith}
use Rattle.lc_driver.specs.Tries.{WasInterrupted}
use Rattle.lc_driver.proofs.Tries.{one_more, the_last, reads_none}
use Rattle.lc_driver.proofs.uninterrupted.UninterruptedRead.read.Goals as goal

pub tries-preserved : goal.tries-preserved
tries-preserved g c =
    let is : WasInterrupted c.read_once-answer.result = search rules in
    record {
      tries = one_more g.T.ReadDevice.reads {new = (c.read_once-answer.new.self, c.read_once-answer.new.buf)} _ c.tries.invariant.tries is c.read_once-answer.ensures.reads;
      kept = reads_none _ _ _ _ _ c.tries.invariant.kept is c.read_once-answer.ensures.bytes;
    }

pub returns-then-not-is_interrupted-clause-again : goal.returns-then-not-is_interrupted-clause-again
returns-then-not-is_interrupted-clause-again g c = the_last g.T.ReadDevice.reads _ c.tries.invariant.tries c.read_once-answer.ensures.reads (λ is. search rules)

pub returns-clause-again : goal.returns-clause-again
returns-clause-again g c = the_last g.T.ReadDevice.reads _ c.tries.invariant.tries c.read_once.ensures.reads (λ is. omega (arith, c.tries-test.false, c.tries.auto.counter-end))
