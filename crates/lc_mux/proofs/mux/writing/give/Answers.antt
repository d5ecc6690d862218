use Rattle.std.proofs.Common.{◌≤◌, length, refl, arith}
use Rattle.lc_mux.proofs.Gives.{gives_none, gives_as, gives_then, written_then, written_stop, behind_then}
use Rattle.lc_mux.proofs.mux.writing.give.Goals as goal

pub frames-init : goal.frames-init
frames-init c = record {
  within = omega arith;
  behind = refl;
  gives = gives_none c.args.closing c.args.owed.now c.args.lines.now c.args.pending.now;
  begun = λ h. h;
  flushed = λ e h. h;
  closed = λ e h. h;
}

pub frames-preserved : goal.frames-preserved
frames-preserved c =
    let at = c.frames.invariant in
    let gave = c.give_next-count.ensures in
    let cut = c.split_at_mut-room.ensures in
    let le : c.frames.done ≤ length c.frames.out = omega (arith, at.within, c.frames.auto.out) in
    record {
      within = omega (arith, at.within, gave.count, cut.back_len, c.frames.auto.out);
      behind = behind_then c.frames.done c.give_next-count.result c.args.out.now c.frames.out _ _ _ le cut.front cut.back at.behind gave.behind;
      gives = gives_as (written_then c.frames.done c.give_next-count.result c.frames.out _ c.give_next-count.new.out le cut.front) (gives_then at.gives gave.gives);
      begun = λ h. gave.begun (at.begun h);
      flushed = λ e h. gave.flushed e (at.flushed e h);
      closed = λ e h. gave.closed e (at.closed e h);
    }

pub returns-then-count-eq0-clause-gives : goal.returns-then-count-eq0-clause-gives
returns-then-count-eq0-clause-gives c =
    let at = c.frames.invariant in
    let gave = c.give_next-count.ensures in
    let cut = c.split_at_mut-room.ensures in
    let le : c.frames.done ≤ length c.frames.out = omega (arith, at.within, c.frames.auto.out) in
    gives_as (written_stop c.frames.done c.give_next-count.result c.frames.out _ c.give_next-count.new.out le cut.front (omega (arith, c.if-count-eq0.true))) (gives_then at.gives gave.gives)
