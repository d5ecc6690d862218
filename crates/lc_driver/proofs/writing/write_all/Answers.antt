use Rattle.std.proofs.Common.{arith}
use Rattle.lc_driver.proofs.Counting.{call_goes_on, call_ends, call_fails, call_counts, failure_counts}
use Rattle.lc_driver.proofs.Written.{writes_on}
use Rattle.lc_driver.proofs.writing.write_all.Goals as goal

pub writes-preserved : goal.writes-preserved
writes-preserved g c =
    let at = c.writes.invariant in
    let wrote = c.in-Ok.ensures in
    record {
      within = omega (arith, at.within, wrote.bound, c.split_at.ensures.back_len);
      grown = writes_on _ _ _ _ _ _ _ c.split_at.ensures.back at.grown wrote.bytes;
      counts = call_goes_on (g.W.Failures.counts c.args.writer.now) (g.W.Failures.counts c.writes.writer) (g.W.Failures.counts c.write_counted.new.self) c.in-Ok.taken _ c.in-Ok.taken-test.1 at.counts wrote.counts;
      calls = omega (arith, call_counts (g.W.Failures.counts c.args.writer.now) (g.W.Failures.counts c.writes.writer) (g.W.Failures.counts c.write_counted.new.self) c.in-Ok.taken _ c.writes.done at.calls wrote.counts, c.in-Ok.taken-test.1);
      untouched = λ nothing. absurd (omega (arith, nothing, c.writes-test.true));
    }

pub returns-in-Ok-eq0-clause-counts : goal.returns-in-Ok-eq0-clause-counts
returns-in-Ok-eq0-clause-counts g c =
    call_ends (g.W.Failures.counts c.args.writer.now) (g.W.Failures.counts c.writes.writer) (g.W.Failures.counts c.write_counted.new.self) c.in-Ok-eq0.field-0 _ c.in-Ok-eq0.field-0-test (omega (arith, c.writes-test.true, c.split_at.ensures.back_len)) c.writes.invariant.counts c.in-Ok-eq0.ensures.counts

pub returns-in-Err-clause-counts : goal.returns-in-Err-clause-counts
returns-in-Err-clause-counts g c = call_fails (g.W.Failures.counts c.args.writer.now) (g.W.Failures.counts c.writes.writer) (g.W.Failures.counts c.write_counted.new.self) c.in-Err.field-0 0 c.writes.invariant.counts c.in-Err.ensures.counts

pub returns-in-Ok-eq0-clause-calls : goal.returns-in-Ok-eq0-clause-calls
returns-in-Ok-eq0-clause-calls g c = omega (arith, call_counts (g.W.Failures.counts c.args.writer.now) (g.W.Failures.counts c.writes.writer) (g.W.Failures.counts c.write_counted.new.self) c.in-Ok-eq0.field-0 _ c.writes.done c.writes.invariant.calls c.in-Ok-eq0.ensures.counts)

pub returns-in-Err-clause-calls : goal.returns-in-Err-clause-calls
returns-in-Err-clause-calls g c = omega (arith, failure_counts (g.W.Failures.counts c.args.writer.now) (g.W.Failures.counts c.writes.writer) (g.W.Failures.counts c.write_counted.new.self) c.in-Err.field-0 0 c.writes.done c.writes.invariant.calls c.in-Err.ensures.counts)
