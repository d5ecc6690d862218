use Rattle.std.proofs.Common.{arith, ap, length, ◌++◌, ◌∙◌}
use Rattle.std.proofs.lemmas.List.{length-append}
use Rattle.lc_ring.proofs.Places.{piece_on}
use Rattle.lc_ring.proofs.pieces.copy_pieces.Goals as goal

pub pieces-preserved : goal.pieces-preserved
pieces-preserved c =
    let at = c.pieces.invariant in
    let rest = c.split_at_mut-rest.ensures in
    let next = c.split_at_mut-next.ensures in
    let piece = c.split_at-in-pieces.ensures in
    record {
      within = omega (arith, at.within, c.split_at.ensures.back_len, piece.front_len, c.min.ensures);
      same = omega (arith, length-append c.split_at_mut-rest.result.0.now (c.copy_piece.new.place ++ c.split_at_mut-next.result.1.now), length-append c.copy_piece.new.place c.split_at_mut-next.result.1.now, ap length c.copy_piece.ensures, rest.front_len, rest.back_len, next.back_len, at.same);
      copied = piece_on _ _ _ _ _ _ _ _ at.within rest.front_len (rest.front ∙ at.copied) c.copy_piece.ensures c.split_at.ensures.back piece.front piece.front_len;
    }
