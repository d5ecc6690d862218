use Rattle.std.proofs.Common.{rules}
use Rattle.lc_driver.specs.Tries.{WasInterrupted}
use Rattle.lc_driver.proofs.Tries.{one_more, writes_none}
use Rattle.lc_driver.proofs.uninterrupted.UninterruptedWrite.write.Goals as goal

pub tries-preserved : goal.tries-preserved
tries-preserved g c =
    let is : WasInterrupted c.write_once-answer.result = search rules in
    record {
      tries = one_more (g.T.WriteDevice.writes c.args.buf.now) _ c.tries.invariant.tries is c.write_once-answer.ensures.writes;
      kept = writes_none _ _ _ _ _ c.tries.invariant.kept is c.write_once-answer.ensures.bytes;
    }
