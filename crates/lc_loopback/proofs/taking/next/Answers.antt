use Rattle.lc_loopback.proofs.Takes.{takes_next}
use Rattle.lc_loopback.proofs.taking.next.Goals as goal

pub returns-in-Ok-Took-clause-took : goal.returns-in-Ok-Took-clause-took
returns-in-Ok-Took-clause-took g c = takes_next c.in-Ok-Took.len c.in-Ok-Took.field-0 c.loop.buffer c.take_into.new.buffer c.args.end.now c.loop.end c.take_into.new.self c.in-Ok-Took.field-0-is c.loop.invariant.took c.in-Ok-Took.ensures.ok
