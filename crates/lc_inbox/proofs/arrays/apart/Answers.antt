use Rattle.std.proofs.Common.{rules}
use Rattle.lc_inbox.proofs.Seven.{seven_of}
use Rattle.lc_inbox.proofs.arrays.apart.Goals as goal

pub returns : goal.returns
returns g c = seven_of _ _ _ _ _ _ _ _ c.requires (search rules) (search rules) (search rules) (search rules) (search rules) (search rules) (search rules)
