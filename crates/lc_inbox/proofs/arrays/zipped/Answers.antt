use Rattle.std.proofs.Common.{rules, sym}
use Rattle.lc_inbox.proofs.Seven.{seven_of}
use Rattle.lc_inbox.proofs.arrays.zipped.Goals as goal

pub returns : goal.returns
returns g c = (sym (seven_of _ _ _ _ _ _ _ _ c.requires.0 (search rules) (search rules) (search rules) (search rules) (search rules) (search rules) (search rules)), sym (seven_of _ _ _ _ _ _ _ _ c.requires.1 (search rules) (search rules) (search rules) (search rules) (search rules) (search rules) (search rules)))
