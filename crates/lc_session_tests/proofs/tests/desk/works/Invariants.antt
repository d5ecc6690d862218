use Rattle.lc_session_tests.specs.Desks.{StaysOfOne}
use Rattle.lc_session_tests.proofs.tests.desk.works.Given as goal

abbrev pub invariant-loop-line : goal.invariant-loop-line
invariant-loop-line g l = StaysOfOne l.initial.desk.parts l.desk.parts
