use Rattle.std.proofs.Common.{◌∙◌, arith}
use Rattle.lc_peer.proofs.Kept.{any_fits, step_between}
use Rattle.lc_peer.proofs.delivery.step_or_find.Goals as goal

pub returns-in-Some-clause-kept : goal.returns-in-Some-clause-kept
returns-in-Some-clause-kept g c = λ any. step_between c.args.rings.now c.args.version c.args.decoder.now c.args.piece.now c.requires (any_fits _ _ c.args.version _ any c.in-Some.ensures.within) (λ i. omega (arith, c.type_inv.piece i)) g.S.FrameSink.arrived g.S.FrameSink.violated c.in-Some.step c.args.sink.now c.step_in_piece.new.sink c.step_in_piece.new.decoder c.in-Some.ensures.steps

pub returns-in-None-find_in_piece-clause-kept : goal.returns-in-None-find_in_piece-clause-kept
returns-in-None-find_in_piece-clause-kept g c = λ any. step_between c.args.rings.now c.args.version c.step_in_piece.new.decoder c.args.piece.now (c.in-None.ensures.none.1 ∙ c.requires) c.in-None-find_in_piece.ensures.none (λ i. omega (arith, c.type_inv.piece i)) g.S.FrameSink.arrived g.S.FrameSink.violated c.step_in_any.result c.step_in_piece.new.sink c.step_in_any.new.sink c.step_in_any.new.decoder c.step_in_any.ensures
