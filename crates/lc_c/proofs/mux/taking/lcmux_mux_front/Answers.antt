use Rattle.std.proofs.Common.{ap, sym, ◌∙◌, arith}
use Rattle.lc_c.specs.declared.answer.LcmuxAnswer.{LcmuxAnswer}
use Rattle.lc_c.specs.MuxTakes.{front_answer}
use Rattle.lc_c.proofs.Barred.{barred_number}
use Rattle.lc_c.proofs.mux.taking.lcmux_mux_front.Goals as goal

pub returns-in-Barred-clause-message : goal.returns-in-Barred-clause-message
returns-in-Barred-clause-message c =
    let barred = c.in-Barred.ensures in
    let none = sym (ap (λ (a : LcmuxAnswer). a.number) (barred.answers (λ side c'. front_answer side.mux c'))) ∙ barred_number _ _ _ barred.barred in
    omega (arith, c.of.ensures.first, c.of.ensures.rest, none)

pub returns-in-Barred-clause-first : goal.returns-in-Barred-clause-first
returns-in-Barred-clause-first c = λ some.
    let barred = c.in-Barred.ensures in
    let none = sym (ap (λ (a : LcmuxAnswer). a.number) (barred.answers (λ side c'. front_answer side.mux c'))) ∙ barred_number _ _ _ barred.barred in
    omega (arith, some, none)
