use Rattle.std.proofs.Common.{◌∙◌, sym, refl, ap, subst, arith, take, ℕ, List}
use Rattle.std.specs.Io.KnownBytes.{Consumes}
use Rattle.lc_driver.specs.declared.reading.ReadEnd.{ReadEnd}
use Rattle.lc_driver.specs.Reading.{ReadsInto}
use Rattle.lc_driver.proofs.Counting.{NoneTold, call_goes_on, calls_count_on}
use Rattle.lc_driver.proofs.Arrived.{consumes_nothing, nothing_read, reads_filled, same_so_far, reads_on, reads_stop, reads_end}
use Rattle.lc_driver.proofs.reading.read_into.Goals as goal

pub reads-init : goal.reads-init
reads-init g c =
    let none = c.in-None.is in
    record {
      so_far = nothing_read g.S.FrameSink.arrived _ (g.I.IntakeFor.state c.args.intake.now) c.args.sink.now c.stop.ensures.bytes c.stop.ensures.settled (c.stop.ensures.undecided none) (sym c.stop.ensures.value ∙ none);
      counts = refl;
      calls = omega arith;
      suits = c.requires.suits;
      rings = refl;
    }

pub deliver-requires : goal.deliver-requires
deliver-requires g c = subst (λ (rings : List ℕ). g.I.IntakeFor.suits rings c.reads.sink) (sym c.in-Few.ensures.rings) c.reads.invariant.suits

pub returns-in-Took-eq0-clause-reads : goal.returns-in-Took-eq0-clause-reads
returns-in-Took-eq0-clause-reads g c = λ going.
    let took = c.in-Took-eq0.ensures.held in
    let n = c.in-Took-eq0.field-0 in
    let so_far = reads_filled g.S.FrameSink.arrived g.S.FrameSink.violated 0 (g.I.IntakeFor.state c.fill.new.self) n took.memory c.reads.invariant.so_far took.filled.0.0 (omega arith) (omega (arith, c.in-Took-eq0.field-0-test)) (omega (arith, c.in-Took-eq0.field-0-test)) took.bytes c.in-Took-eq0.ensures.bytes took.grown took.undecided c.in-Took-eq0.ensures.stop in
    reads_end g.S.FrameSink.arrived g.S.FrameSink.violated c.args.max_reads c.input_end.result so_far (omega (arith, c.reads-test.true)) (consumes_nothing _) (c.input_end.ensures (g.I.IntakeFor.state c.fill.new.self) so_far.going c.end.ensures)

pub reads-preserved-in-Took : goal.reads-preserved-in-Took
reads-preserved-in-Took g c =
    let at = c.reads.invariant in
    let took = c.in-Took.ensures.held in
    let n = c.in-Took.field-0 in
    record {
      so_far = reads_filled g.S.FrameSink.arrived g.S.FrameSink.violated 1 (g.I.IntakeFor.state c.fill.new.self) n took.memory at.so_far took.filled.0.0 (omega (arith, c.in-Took.field-0-test.1)) (omega (arith, took.within, took.size.most)) took.within took.bytes c.in-Took.ensures.bytes took.grown took.undecided c.in-Took.ensures.stop;
      counts = call_goes_on (g.R.Failures.counts c.args.reader.now) (g.R.Failures.counts c.reads.reader) (g.R.Failures.counts c.fill.new.source) n _ c.in-Took.field-0-test.1 at.counts took.filled.1;
      calls = calls_count_on (g.R.Failures.counts c.args.reader.now) (g.R.Failures.counts c.reads.reader) (g.R.Failures.counts c.fill.new.source) n _ _ at.calls took.filled.1;
      suits = subst (λ (rings : List ℕ). g.I.IntakeFor.suits rings c.reads.sink) (sym c.in-Took.ensures.rings) at.suits;
      rings = c.in-Took.ensures.rings ∙ at.rings;
    }

pub returns-in-Ok-eq0-clause-reads : goal.returns-in-Ok-eq0-clause-reads
returns-in-Ok-eq0-clause-reads g c = λ going.
    let few = c.in-Few.ensures.held in
    let so_far = same_so_far g.S.FrameSink.arrived (g.R.Read.remaining c.fill.new.source) (g.I.IntakeFor.state c.fill.new.self) c.reads.invariant.so_far (ap g.R.Read.remaining few.1) few.0 c.in-Few.ensures.stop in
    let none = subst (λ (n : ℕ). Consumes (g.R.Read.remaining c.fill.new.source) (g.R.Read.remaining c.read_counted.new.self) (take n c.read_counted.new.buf)) c.in-Ok-eq0.field-0-test c.in-Ok-eq0.ensures.bytes.0 in
    reads_end g.S.FrameSink.arrived g.S.FrameSink.violated c.args.max_reads c.input_end-in-Ok-eq0.result so_far c.reads-test.true none (c.input_end-in-Ok-eq0.ensures (g.I.IntakeFor.state c.fill.new.self) so_far.going c.end-in-Ok-eq0.ensures)

pub returns-in-Some-stop-clause-reads : goal.returns-in-Some-stop-clause-reads
returns-in-Some-stop-clause-reads g c = λ going.
    let few = c.in-Few.ensures.held in
    let so_far = same_so_far g.S.FrameSink.arrived (g.R.Read.remaining c.fill.new.source) (g.I.IntakeFor.state c.fill.new.self) c.reads.invariant.so_far (ap g.R.Read.remaining few.1) few.0 c.in-Few.ensures.stop in
    subst (λ (end : ReadEnd). ReadsInto g.S.FrameSink.arrived g.S.FrameSink.violated (g.R.Read.remaining c.args.reader.now) (g.R.Read.remaining c.read_counted.new.self) (g.I.IntakeFor.state c.args.intake.now).held c.args.sink.now (g.I.IntakeFor.state c.deliver.new.self) c.deliver.new.sink c.args.max_reads end) (sym c.from-in-Some-stop.ensures) (reads_stop g.S.FrameSink.arrived g.S.FrameSink.violated c.args.max_reads (g.I.IntakeFor.state c.deliver.new.self) (take c.in-Ok.n c.read_counted.new.buf) _ c.deliver.result c.in-Some-stop.stop so_far c.reads-test.true c.in-Ok.ensures.bytes.0 c.split_at.ensures.front (omega (arith, c.in-Ok.ensures.bound)) c.deliver.ensures.bytes (c.deliver.ensures.delivers so_far.going) c.in-Some-stop.is c.deliver.ensures.stop)

pub reads-preserved : goal.reads-preserved
reads-preserved g c =
    let at = c.reads.invariant in
    let few = c.in-Few.ensures.held in
    let so_far = same_so_far g.S.FrameSink.arrived (g.R.Read.remaining c.fill.new.source) (g.I.IntakeFor.state c.fill.new.self) at.so_far (ap g.R.Read.remaining few.1) few.0 c.in-Few.ensures.stop in
    let counts : NoneTold (g.R.Failures.counts c.args.reader.now) (g.R.Failures.counts c.fill.new.source) = subst (λ (reader : g.row.R.Denot). NoneTold (g.R.Failures.counts c.args.reader.now) (g.R.Failures.counts reader)) (sym few.1) at.counts in
    let calls = ap (λ (reader : g.row.R.Denot). (g.R.Failures.counts reader).calls) few.1 ∙ at.calls in
    record {
      so_far = reads_on g.S.FrameSink.arrived g.S.FrameSink.violated (g.I.IntakeFor.state c.deliver.new.self) (take c.in-Ok.n c.read_counted.new.buf) _ c.deliver.result so_far c.in-Ok.ensures.bytes.0 c.split_at.ensures.front (omega (arith, c.in-Ok.ensures.bound.1, c.in-Ok.n-test.1)) (omega (arith, c.in-Ok.ensures.bound)) c.deliver.ensures.bytes (c.deliver.ensures.delivers so_far.going) c.in-None-stop.is c.deliver.ensures.stop;
      counts = call_goes_on (g.R.Failures.counts c.args.reader.now) (g.R.Failures.counts c.fill.new.source) (g.R.Failures.counts c.read_counted.new.self) c.in-Ok.n _ c.in-Ok.n-test.1 counts c.in-Ok.ensures.counts;
      calls = calls_count_on (g.R.Failures.counts c.args.reader.now) (g.R.Failures.counts c.fill.new.source) (g.R.Failures.counts c.read_counted.new.self) c.in-Ok.n _ _ calls c.in-Ok.ensures.counts;
      suits = c.deliver.ensures.suits;
      rings = c.deliver.ensures.rings ∙ c.in-Few.ensures.rings ∙ at.rings;
    }
