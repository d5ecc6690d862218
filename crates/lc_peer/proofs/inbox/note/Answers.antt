use Rattle.std.proofs.Common.{rules}
use Rattle.lc_peer.proofs.inbox.note.Goals as goal

pub returns-in_default-clause-answer : goal.returns-in_default-clause-answer
returns-in_default-clause-answer c = search rules
