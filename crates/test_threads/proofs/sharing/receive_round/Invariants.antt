use Rattle.lc_credit.specs.Channels.{SameCredits}
use Rattle.test_threads.proofs.sharing.receive_round.Given as goal

abbrev pub invariant-loop-channel : goal.invariant-loop-channel
invariant-loop-channel l = SameCredits l.fn.incoming l.incoming
