use Rattle.lc_inbox.proofs.Calls.{finished}
use Rattle.lc_inbox.proofs.shared_inbox.end_both.Goals as goal

pub returns : goal.returns
returns c = let last = c.take_last-end.ensures in finished _ _ c.take_last-end.result _ _ last.0 last.1 last.2 last.3 c.into_parts.ensures.0 c.into_parts.ensures.1
