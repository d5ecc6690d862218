use Rattle.std.proofs.Common.{rules}
use Rattle.lc_frame.proofs.channel.Channel.from_number.Goals as goal

pub returns-in-6-clause-value : goal.returns-in-6-clause-value
returns-in-6-clause-value c = search rules

pub returns-in-6-clause-inverse : goal.returns-in-6-clause-inverse
returns-in-6-clause-inverse c = search rules
