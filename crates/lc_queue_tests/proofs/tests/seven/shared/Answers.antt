use Rattle.lc_inbox.proofs.Places.{matched_out}
use Rattle.lc_queue_tests.proofs.tests.seven.shared.Goals as goal

pub finish_all-requires : goal.finish_all-requires
finish_all-requires g c = matched_out c.in-Ok.inboxes.incoming _ _ c.issue_each.ensures c.in-Ok.ensures.matched
