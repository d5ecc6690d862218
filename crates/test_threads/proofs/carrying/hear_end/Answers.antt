use Rattle.test_threads.proofs.Arrivals.{limit_answered}
use Rattle.test_threads.proofs.carrying.hear_end.Goals as goal

pub returns-clause-arrived : goal.returns-clause-arrived
returns-clause-arrived g c = limit_answered c.arrive-answer.result _ 0 _ _ c.channel-channel.ensures c.arrive-answer.ensures.same c.arrive-answer.ensures.ok c.arrive-answer.ensures.err
