use Rattle.lc_outbox.specs.Outbox.{IsSameOutbox}
use Rattle.load.proofs.Zips.{zip_from_places}
use Rattle.load.proofs.waking.send_meanwhile.Goals as goal

pub returns : goal.returns
returns g c = zip_from_places IsSameOutbox _ _ c.send_each.ensures.len c.send_each.ensures.same
