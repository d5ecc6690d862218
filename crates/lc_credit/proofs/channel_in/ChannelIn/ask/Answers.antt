use Rattle.std.proofs.Common.{rules, arith, ◌∙◌}
use Rattle.lc_credit.proofs.Histories.{made_received}
use Rattle.lc_credit.proofs.Seats.{may_store_asked, reading_is}
use Rattle.lc_credit.proofs.channel_in.ChannelIn.ask.Goals as goal

pub store-requires : goal.store-requires
store-requires c = let n = c.from-asked.ensures in (search rules, search rules, may_store_asked _ _ c.from-asked.result _ c.self.invariant.2 (omega arith))

pub invariant_of-self : goal.invariant_of-self
invariant_of-self c =
    let e = c.store.ensures.2 in
    let sum = made_received _ _ _ e.makes in
    let was = c.self.invariant.3 in
    let counted = was.counted in
    (search rules, search rules, record { view = reading_is _ _ e.view; slots = e.slots ∙ c.self.invariant.2.slots }, record { counted = omega arith; total = was.total; bound = was.bound })

pub returns-clause-asked : goal.returns-clause-asked
returns-clause-asked c = search rules
