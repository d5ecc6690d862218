use Rattle.std.proofs.Common.{rules}
use Rattle.lc_driver.specs.Tries.{WasInterrupted}
use Rattle.lc_driver.proofs.Tries.{one_more, kept_then}
use Rattle.lc_driver.proofs.uninterrupted.UninterruptedWrite.flush.Goals as goal

pub tries-preserved : goal.tries-preserved
tries-preserved g c =
    let is : WasInterrupted c.flush_once-answer.result = search rules in
    record {
      tries = one_more g.T.WriteDevice.flushes _ c.tries.invariant.tries is c.flush_once-answer.ensures.flushes;
      kept = kept_then _ _ _ c.tries.invariant.kept c.flush_once-answer.ensures.bytes;
    }
