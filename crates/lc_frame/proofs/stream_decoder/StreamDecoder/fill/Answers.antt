use Rattle.std.proofs.Common.{◌≡◌, ℕ, ◌+◌, ◌≤◌, length, sym, ◌∙◌, arith}
use Rattle.lc_frame.specs.declared.progress.Progress.TheVariants.{Wants}
use Rattle.lc_frame.specs.Fill.{fill_len}
use Rattle.lc_frame.proofs.Lacks.{lacks_few}
use Rattle.lc_frame.proofs.stream_decoder.StreamDecoder.fill.Goals as goal

wanted_is : {m n : ℕ} → Wants m ≡ Wants n → m ≡ n
wanted_is e = cc

pub returns-then-lacks-le-FILL_LEN-clause-few : goal.returns-then-lacks-le-FILL_LEN-clause-few
returns-then-lacks-le-FILL_LEN-clause-few g c = λ e. lacks_few _ _ _ _ c.self.invariant c.self.view_is (λ n wants.
    let same = wanted_is (sym c.in-Wants.is ∙ wants) in
    let few : c.in-Wants.need ≤ length c.self.inside.buffer + fill_len = omega (arith, c.if-lacks-le-FILL_LEN.true, c.len.ensures) in
    omega (arith, same, few))

pub returns-in-Whole-clause-few : goal.returns-in-Whole-clause-few
returns-in-Whole-clause-few g c = λ e. lacks_few _ _ _ _ c.self.invariant c.self.view_is (λ n wants. let both = sym c.in-Whole.is ∙ wants in absurd cc)

pub returns-in-Fault-clause-few : goal.returns-in-Fault-clause-few
returns-in-Fault-clause-few g c = λ e. lacks_few _ _ _ _ c.self.invariant c.self.view_is (λ n wants. let both = sym c.in-Fault.is ∙ wants in absurd cc)
