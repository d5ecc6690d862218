use Rattle.std.proofs.Common.{rules, arith, refl}
use Rattle.lc_frame.specs.declared.channel.Channel.TheVariants.{Reconciliation}
use Rattle.lc_credit.specs.Sides.{IsIdle, IsUnfinished}
use Rattle.lc_credit.proofs.Channels.{new_from, new_are_matched, new_are_all}
use Rattle.lc_credit.proofs.credit_parts.credits.Goals as goal

pub returns-clause-new : goal.returns-clause-new
returns-clause-new c =
    let parted = c.parted-channels.ensures in
    let made = c.in_ok-try_map.ensures.ok in
    new_from _ _ _ parted.0 parted.1 (λ k pair few. let called = made.at k Reconciliation pair (omega (arith, few, made.long)) in search rules)

pub returns-clause-matched : goal.returns-clause-matched
returns-clause-matched c = new_are_matched _ _ (returns-clause-new c)

pub returns-clause-idle : goal.returns-clause-idle
returns-clause-idle c = new_are_all IsIdle (λ credit. refl) _ _ (returns-clause-new c)

pub returns-clause-unfinished : goal.returns-clause-unfinished
returns-clause-unfinished c = new_are_all IsUnfinished (λ credit. refl) _ _ (returns-clause-new c)
