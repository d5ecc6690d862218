-- The lines so far are read, each of which has a byte at least.
use Rattle.std.proofs.Common.{◌+◌, ◌≤◌, length}
use Rattle.lc_cli.specs.Fields.{IsReadTo}
use Rattle.lc_cli.proofs.script.parse_script.Given as goal

abbrev pub invariant-lines : goal.invariant-lines
invariant-lines l = (l.number + length l.rest ≤ length l.script) × IsReadTo l.script l.rest l.events.items

abbrev pub decreases-lines : goal.decreases-lines
decreases-lines l = length l.rest
