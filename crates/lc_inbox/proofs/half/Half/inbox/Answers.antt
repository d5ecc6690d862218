use Rattle.std.proofs.Common.{rules, ap, sym, ◌∙◌, ◌∷◌, Some}
use Rattle.atomic_table.specs.Table.{rest}
use Rattle.lc_inbox.proofs.Steps.{has_me}
use Rattle.lc_inbox.proofs.half.Half.inbox.Goals as goal

pub slot_mut-requires : goal.slot_mut-requires
slot_mut-requires c =
    let loan = c.requires.0 in
    let was = has_me _ _ _ _ loan _ _ (ap (λ v. v.lent) c.self.view_is ∙ c.requires.1) c.self.invariant.3 in
    (search rules, (Some loan.held, ap (λ m. m.1) was ∙ ap (λ l. (0, Some loan.held) ∷ rest l) (sym (ap (λ m. m.1) was))))
