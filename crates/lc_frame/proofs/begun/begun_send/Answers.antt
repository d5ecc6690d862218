use Rattle.std.proofs.Common.{rules, arith}
use Rattle.lc_frame.proofs.Sends.{begins_from}
use Rattle.lc_frame.proofs.begun.begun_send.Goals as goal

pub returns-clause-some : goal.returns-clause-some
returns-clause-some c =
    let in_range = c.allows.ensures.fact in
    begins_from _ _ c.args.bytes.now _ _ _ (λ i. omega (arith, c.type_inv.bytes i)) (omega (arith, c.in-len1-up.len_at_least)) (search rules) c.width-width.ensures (omega (arith, c.if-rest-width.false)) c.split_at.ensures.front c.number_at-number.ensures (search rules)
