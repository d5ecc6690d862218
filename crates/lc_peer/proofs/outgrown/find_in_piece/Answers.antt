use Rattle.lc_peer.proofs.outgrown.find_in_piece.Goals as goal

pub returns-in_err-begun-clause-none : goal.returns-in_err-begun-clause-none
returns-in_err-begun-clause-none c = rw c.from_residual.ensures (λ channel len begun longer. c.in_err-begun.ensures.none channel len begun)
