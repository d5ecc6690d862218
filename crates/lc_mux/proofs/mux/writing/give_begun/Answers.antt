use Rattle.std.proofs.Common.{ℕ, subst, arith}
use Rattle.lc_lines.specs.Scheduler.{write}
use Rattle.lc_lines.specs.Lines.{with_scheduler}
use Rattle.lc_mux.specs.Flushing.{SettlesAndPuts}
use Rattle.lc_mux.proofs.Gives.{gives_as, gives_then, gives_rest, begun_rest, written_front}
use Rattle.lc_mux.proofs.mux.writing.give_begun.Goals as goal

pub returns-clause-gives : goal.returns-clause-gives
returns-clause-gives c =
    let n = c.give-count.result in
    let o = c.begin_next.new.owed in
    let l = c.begin_next.new.lines in
    let p = c.begin_next.new.pending in
    let writes = subst (λ (left : ℕ). SettlesAndPuts c.args.closing o (with_scheduler l (write l.scheduler left)) c.note_written.new.owed c.note_written.new.lines) c.len.ensures.value c.note_written.ensures.writes in
    gives_as (written_front n p c.args.out.now c.give-count.new.out (omega (arith, c.give-count.ensures.count)) c.give-count.ensures.written)
    (gives_then c.begin_next.ensures.gives (gives_rest c.args.closing n o l c.note_written.new.owed c.note_written.new.lines p c.give-count.new.self c.give-count.ensures.rest writes))

pub returns-clause-begun : goal.returns-clause-begun
returns-clause-begun c =
    let n = c.give-count.result in
    let o = c.begin_next.new.owed in
    let l = c.begin_next.new.lines in
    let p = c.begin_next.new.pending in
    let writes = subst (λ (left : ℕ). SettlesAndPuts c.args.closing o (with_scheduler l (write l.scheduler left)) c.note_written.new.owed c.note_written.new.lines) c.len.ensures.value c.note_written.ensures.writes in
    λ h. begun_rest c.args.closing n o l c.note_written.new.owed c.note_written.new.lines p c.give-count.new.self c.give-count.ensures.rest writes (c.begin_next.ensures.begun h)

pub returns-clause-flushed : goal.returns-clause-flushed
returns-clause-flushed c = λ e _. c.note_written.ensures.flushed e
