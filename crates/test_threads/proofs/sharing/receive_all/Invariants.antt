use Rattle.lc_credit.specs.Channels.{SameCredits}
use Rattle.test_threads.proofs.sharing.receive_all.Given as goal

abbrev pub invariant-loop-round : goal.invariant-loop-round
invariant-loop-round l = SameCredits l.fn.incoming l.incoming
