use Rattle.std.proofs.Common.{rules}
use Rattle.lc_frame.proofs.channel.Channel.number.Goals as goal

pub returns-clause-value : goal.returns-clause-value
returns-clause-value c = search rules

pub returns-clause-inverse : goal.returns-clause-inverse
returns-clause-inverse c = search rules
