-- The digits of what is left, and those that are put, are the number's.
use Rattle.std.proofs.Common.{◌≡◌, ◌≤◌, ◌++◌, length, drop}
use Rattle.std.specs.Fmt.{decimal}
use Rattle.lc_cli.proofs.output.put_decimal.Given as goal

abbrev pub invariant-digits : goal.invariant-digits
invariant-digits l = (decimal l.rest ++ drop l.first l.digits ≡ decimal l.number) × (length l.digits ≡ 20) × (l.first ≤ 20)

abbrev pub decreases-digits : goal.decreases-digits
decreases-digits l = l.rest
