use Rattle.std.proofs.Common.{sym, ◌∙◌}
use Rattle.lc_peer.proofs.Kept.{ready_unknown, ready_known, fits_headed}
use Rattle.lc_peer.proofs.outgrown.find_headed.Goals as goal

pub returns-in_err-version-clause-none : goal.returns-in_err-version-clause-none
returns-in_err-version-clause-none c = rw c.from_residual.ensures (λ rest named goes. ready_unknown _ _ rest c.stored-stored.ensures.settled (sym c.version.ensures ∙ c.in_err-version.was) named goes)

pub returns-then-stored-head_len-clause-none : goal.returns-then-stored-head_len-clause-none
returns-then-stored-head_len-clause-none c = λ rest named goes. ready_known _ _ rest c.in_ok-version.version c.stored-stored.ensures.settled (sym c.version.ensures ∙ c.in_ok-version.was) named goes (λ all. absurd (c.if-stored-head_len.true (c.stored-stored.ensures.value ∙ all ∙ sym c.head_len.ensures)))

pub returns-in_err-begun-clause-none : goal.returns-in_err-begun-clause-none
returns-in_err-begun-clause-none c =
    let known = sym c.version.ensures ∙ c.in_ok-version.was in
    rw c.from_residual-in_err-begun.ensures (λ rest named goes. ready_known _ _ rest c.in_ok-version.version c.stored-stored.ensures.settled known named goes (λ all. fits_headed _ _ rest c.in_ok-version.version known all c.in_err-begun.ensures.none))
