use Rattle.lc_inbox.specs.Sides.{IsSameSide}
use Rattle.load.proofs.Zips.{zip_from_places}
use Rattle.load.proofs.waking.take_meanwhile.Goals as goal

pub returns : goal.returns
returns g c = zip_from_places IsSameSide _ _ c.take_each.ensures.len c.take_each.ensures.same
