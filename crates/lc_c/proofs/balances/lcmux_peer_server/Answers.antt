use Rattle.std.proofs.Common.{sym}
use Rattle.lc_c.proofs.Barred.{given_barred}
use Rattle.lc_c.proofs.balances.lcmux_peer_server.Goals as goal

pub returns-in-Barred-clause-balances : goal.returns-in-Barred-clause-balances
returns-in-Barred-clause-balances c = sym (given_barred _ _ _ _ c.in-Barred.ensures.barred)
