use Rattle.test_threads.proofs.Channels.{same_ends}
use Rattle.test_threads.proofs.sharing.use_all.Goals as goal

pub returns-clause-same : goal.returns-clause-same
returns-clause-same g c = same_ends _ _ c.use_each.ensures.len c.use_each.ensures.same
