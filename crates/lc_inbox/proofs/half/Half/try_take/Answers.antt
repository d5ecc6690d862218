use Rattle.std.proofs.Common.{rules, ap, ◌∙◌, eqb-true}
use Rattle.lc_inbox.proofs.Steps.{may_seize, idle_me, seized, has_taken}
use Rattle.lc_inbox.proofs.half.Half.try_take.Goals as goal

pub compare_exchange-found-requires : goal.compare_exchange-found-requires
compare_exchange-found-requires c = (search rules, search rules, may_seize _ _ _ _ _ _ _ _ _ c.word_of_side-word.ensures (idle_me _ _ _ _ _ _ (ap (λ v. v.lent) c.self.view_is ∙ c.requires) c.self.invariant.3))

pub returns-clause-taken : goal.returns-clause-taken
returns-clause-taken c free =
    let was = idle_me _ _ _ _ _ _ (ap (λ v. v.lent) c.self.view_is ∙ c.requires) c.self.invariant.3 in
    let takes = (seized _ _ _ _ _ _ _ was c.compare_exchange-found.ensures.2).0 (eqb-true _ _ free) in
    has_taken _ _ _ _ _ _ _ c.self.view_is c.compare_exchange-found.ensures.0 takes
