use Rattle.lc_loopback.proofs.Puts.{first_finished}
use Rattle.lc_loopback.proofs.sending.finish.Goals as goal

pub returns-in-Ok-clause-put : goal.returns-in-Ok-clause-put
returns-in-Ok-clause-put g c = first_finished c.args.end.now c.loop.end c.finish.new.self c.loop.invariant.put c.loop.invariant.same.channel c.in-Ok.ensures.ok
