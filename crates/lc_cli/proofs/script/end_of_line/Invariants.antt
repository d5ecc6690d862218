-- None of the bytes so far ends the line.
use Rattle.lc_cli.specs.Fields.{NoneBelow}
use Rattle.lc_cli.proofs.script.end_of_line.Given as goal

abbrev pub invariant-bytes : goal.invariant-bytes
invariant-bytes l = NoneBelow 10 l.bytes l.place
