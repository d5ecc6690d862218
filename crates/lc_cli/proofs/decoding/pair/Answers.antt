use Rattle.std.proofs.Common.{inl, inr}
use Rattle.lc_cli.proofs.Digits.{pair-ok, pair-err}
use Rattle.lc_cli.proofs.decoding.pair.Goals as goal
use Rattle.lc_cli.proofs.decoding.pair.Goals.{then-first-ge16-via-then-first-ge16, then-first-ge16-via-else-first-ge16+then-second-ge16}

pub returns-then-first-ge16 : goal.returns-then-first-ge16
returns-then-first-ge16 c = λ i. elim c.then-first-ge16.branch [
  | then-first-ge16-via-then-first-ge16 w ↦
      pair-err c.args.high c.args.low i c.value-first.result c.value-second.result c.value-first.ensures c.value-second.ensures (inl w.if-first-ge16.true)
  | then-first-ge16-via-else-first-ge16+then-second-ge16 w ↦
      pair-err c.args.high c.args.low i c.value-first.result c.value-second.result c.value-first.ensures c.value-second.ensures (inr w.if-second-ge16.true)
]

pub returns : goal.returns
returns c = λ i.
    pair-ok c.args.high c.args.low i c.value-first.result c.value-second.result c.value-first.ensures c.value-second.ensures c.if-first-ge16.false c.if-second-ge16.false
