use Rattle.std.proofs.Common.{sym, ◌∷◌, [], subst, List, Option}
use Rattle.atomic_table.specs.Table.{opening}
use Rattle.lc_inbox.specs.declared.rule.View.TheVariants.{Both}
use Rattle.lc_inbox.specs.Ends.{Held}
use Rattle.lc_inbox.specs.Rule.{KeepsInbox}
use Rattle.lc_inbox.proofs.Steps.{begins}
use Rattle.lc_inbox.proofs.half.slot.Goals as goal

pub new-requires : goal.new-requires
new-requires c = let key = c.args.key.now in subst (λ (l : List (Option Held)). KeepsInbox key (opening (0 ∷ []) l (Both key [] []))) (sym c.in_ok-places.ensures) (begins key c.args.end c.requires)
