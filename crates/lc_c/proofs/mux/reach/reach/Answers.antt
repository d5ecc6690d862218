use Rattle.std.proofs.Common.{rules}
use Rattle.lc_c.proofs.mux.reach.reach.Goals as goal

pub returns-in-None-channel_of : goal.returns-in-None-channel_of
returns-in-None-channel_of c = search rules
