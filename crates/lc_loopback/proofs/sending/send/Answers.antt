use Rattle.lc_loopback.proofs.Puts.{first_sent}
use Rattle.lc_loopback.proofs.sending.send.Goals as goal

pub returns-in-Ok-clause-put : goal.returns-in-Ok-clause-put
returns-in-Ok-clause-put g c = first_sent c.args.body.now c.args.end.now c.loop.end c.send.new.self c.loop.invariant.put c.loop.invariant.same.channel c.in-Ok.ensures.ok
