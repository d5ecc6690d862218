use Rattle.lc_peer.proofs.delivery.complete.Goals as goal

pub returns : goal.returns
returns g c = c.settle.ensures.steps c.args.decoder.now c.args.piece.now c.feed_open-taken.ensures
