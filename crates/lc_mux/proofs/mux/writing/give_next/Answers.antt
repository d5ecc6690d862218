use Rattle.std.proofs.Common.{◌≡◌, ℕ, ◌++◌, take, ap, arith}
use Rattle.lc_mux.proofs.Gives.{gives_as, gives_then}
use Rattle.lc_mux.proofs.mux.writing.give_next.Goals as goal

pub returns-clause-gives : goal.returns-clause-gives
returns-clause-gives c =
    let none : c.give_whole-count.result ≡ 0 = omega (arith, c.if-count-gt0.false) in
    gives_as (ap (λ (n : ℕ). take n c.give_whole-count.new.out ++ take c.give_begun.result c.give_begun.new.out) none) (gives_then c.give_whole-count.ensures.gives c.give_begun.ensures.gives)

pub returns-clause-flushed : goal.returns-clause-flushed
returns-clause-flushed c = λ e h. c.give_begun.ensures.flushed e (c.give_whole-count.ensures.flushed e h)
