use Rattle.std.proofs.Common.{rules}
use Rattle.lc_session.proofs.recv_end.RecvEnd.take_into.Goals as goal

pub returns-clause-turn : goal.returns-clause-turn
returns-clause-turn g c = search rules
