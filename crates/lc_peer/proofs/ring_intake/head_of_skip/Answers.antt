use Rattle.std.proofs.Common.{arith}
use Rattle.lc_peer.proofs.Offending.{shows_skip, shows_none}
use Rattle.lc_peer.proofs.ring_intake.head_of_skip.Goals as goal

pub returns-then-skip-gt0 : goal.returns-then-skip-gt0
returns-then-skip-gt0 c = shows_none c.args.skip.now c.requires.in_range (omega (arith, c.requires.counted, c.if-skip-gt0.true))

pub returns : goal.returns
returns c = shows_skip c.args.skip.now c.requires.in_range (omega (arith, c.requires.counted, c.if-skip-gt0.false))
