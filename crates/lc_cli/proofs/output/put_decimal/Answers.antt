use Rattle.std.proofs.Common.{arith, ◌≤◌, ◌+◌, ◌-◌, ◌%◌}
use Rattle.std.proofs.lemmas.List.{length-set}
use Rattle.lc_cli.proofs.LastDigits.{has_room, put_last, put_only}
use Rattle.lc_cli.proofs.output.put_decimal.Goals as goal

pub overflow_sub-first : goal.overflow_sub-first
overflow_sub-first c =
    has_room c.args.number c.digits.rest c.digits.first c.digits.digits c.ranges.number.fits c.digits.auto.rest-fits.fits c.digits.invariant.1 c.digits.invariant.2 c.digits.invariant.0

pub digits-preserved : goal.digits-preserved
digits-preserved c =
    let i = c.digits in
    let room : 1 ≤ i.first = has_room c.args.number i.rest i.first i.digits c.ranges.number.fits i.auto.rest-fits.fits i.invariant.1 i.invariant.2 i.invariant.0 in
    (put_last c.args.number i.rest i.first i.digits c.digits-test.true i.auto.rest-fits.fits room (omega (arith, i.invariant.1, i.invariant.2)) i.invariant.0, omega (arith, i.invariant.1, length-set i.digits (i.first - 1) (48 + i.rest % 10)), omega (arith, i.invariant.2))

pub overflow_sub-first-2 : goal.overflow_sub-first-2
overflow_sub-first-2 c =
    has_room c.args.number c.digits.rest c.digits.first c.digits.digits c.ranges.number.fits c.digits.auto.rest-fits.fits c.digits.invariant.1 c.digits.invariant.2 c.digits.invariant.0

pub returns-clause-digits : goal.returns-clause-digits
returns-clause-digits c =
    let i = c.digits in
    let room : 1 ≤ i.first = has_room c.args.number i.rest i.first i.digits c.ranges.number.fits i.auto.rest-fits.fits i.invariant.1 i.invariant.2 i.invariant.0 in
    put_only c.args.number i.rest i.first i.digits (omega (arith, c.digits-test.false)) room (omega (arith, i.invariant.1, i.invariant.2)) i.invariant.0
