use Rattle.std.proofs.Common.{rules, arith}
use Rattle.lc_c.proofs.Gives.{gives_then, written_then}
use Rattle.lc_c.proofs.streams.give.Goals as goal

pub frames-preserved : goal.frames-preserved
frames-preserved c =
    let at = c.frames.invariant in
    let gave = c.give_next-count.ensures in
    let cut = c.split_at_mut-room.ensures in
    record {
      within = omega (arith, at.within, gave.count, cut.back_len, c.frames.auto.out);
      written = written_then c.frames.done c.give_next-count.result c.args.out.now c.frames.out _ _ _ at.gives at.written cut.front cut.back gave.written;
      gives = gives_then at.gives gave.gives;
    }

pub returns-clause-count : goal.returns-clause-count
returns-clause-count c = search rules
