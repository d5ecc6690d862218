use Rattle.std.proofs.Common.{rules}
use Rattle.lc_inbox.proofs.shared_inbox.share.Goals as goal

pub invariant_of-incoming : goal.invariant_of-incoming
invariant_of-incoming c = (record { side_is = search rules; lent = search rules }, search rules)

pub invariant_of-outgoing : goal.invariant_of-outgoing
invariant_of-outgoing c = (record { side_is = search rules; lent = search rules }, search rules)
