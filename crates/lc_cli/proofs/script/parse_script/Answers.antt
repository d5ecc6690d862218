use Rattle.std.proofs.Common.{◌≡◌, ◌<◌, rules, arith, length}
use Rattle.lc_cli.proofs.Scripts.{ends_shorter, read_more, read_whole}
use Rattle.lc_cli.proofs.script.parse_script.Goals as goal

pub lines-preserved : goal.lines-preserved
lines-preserved c =
    let (small, reads) = c.lines.invariant in
    let (line, (is, ends)) = c.in-Ok.ensures in
    let some : 0 < length c.lines.rest.now = search (rules, c.lines-test.ensures, c.lines-test.true, c.is_empty.ensures) in
    let less = ends_shorter _ line _ ends some in
    (omega (arith, small, less), read_more _ _ _ line _ _ _ reads some is ends c.in_ok-add.ensures)

pub returns-clause-events : goal.returns-clause-events
returns-clause-events c =
    let none : length c.lines.rest.now ≡ 0 = search (rules, c.lines-test.ensures, c.lines-test.false, c.is_empty.ensures) in
    read_whole _ _ _ c.lines.invariant.1 none
