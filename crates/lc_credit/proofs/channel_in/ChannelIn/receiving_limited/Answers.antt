use Rattle.std.proofs.Common.{rules}
use Rattle.lc_credit.proofs.channel_in.ChannelIn.receiving_limited.Goals as goal

pub returns-2-clause-ok : goal.returns-2-clause-ok
returns-2-clause-ok c = search rules
