use Rattle.lc_peer.proofs.Kept.{few_kept}
use Rattle.lc_peer.proofs.delivery.step_in_few.Goals as goal

pub returns-in-Some-clause-steps : goal.returns-in-Some-clause-steps
returns-in-Some-clause-steps g c = c.settle.ensures.steps c.args.decoder.now c.args.piece.now c.in-Some.ensures.feeds

pub returns-in-Some-clause-kept : goal.returns-in-Some-clause-kept
returns-in-Some-clause-kept g c = λ rings any kept. c.settle.ensures.kept rings (few_kept rings c.args.most c.args.decoder.now c.feed_few.new.self c.args.piece.now c.in-Some.taken c.in-Some.ensures.feeds c.in-Some.ensures.within c.stored-stored.ensures.settled c.stored-fed.ensures.settled c.stored-fed.ensures.bytes any kept)
