use Rattle.std.proofs.Common.{subst}
use Rattle.lc_inbox.specs.Inboxes.{AreNew}
use Rattle.lc_inbox.proofs.Seven.{parts_are_new, new_are_matched}
use Rattle.lc_inbox.proofs.inboxes.share_all_of.Goals as goal

pub returns-clause-new : goal.returns-clause-new
returns-clause-new c =
    subst (λ lanes. AreNew c.args.capacities.now lanes c.unzipped-incoming.result.0 c.unzipped-incoming.result.1) c.in_ok-clients.ensures.1 (parts_are_new _ _ _ _ _ c.in_ok-share_each.ensures c.unzipped-incoming.ensures.0 c.unzipped-incoming.ensures.1)

pub returns-clause-matched : goal.returns-clause-matched
returns-clause-matched c = new_are_matched _ _ _ _ (returns-clause-new c)
