use Rattle.std.proofs.Common.{◌∙◌, ◌+◌, ◌-◌, ◌%◌, ◌∷◌, get_or, arith}
use Rattle.std.specs.Prelude.{replicate}
use Rattle.std.proofs.lemmas.Nat.{mod_below}
use Rattle.lc_frame.specs.Channel.{number_of}
use Rattle.lc_loopback.proofs.Messages.{numbered}
use Rattle.lc_loopback.proofs.message.Message.turn_to.Goals as goal

pub returns-clause-is : goal.returns-clause-is
returns-clause-is c =
    let m = c.args.self.now in
    let p = m.plan in
    let bytes = c.to_be_bytes.result in
    let e = c.to_be_bytes.ensures in
    let behind = p.shortest - 4 + c.args.number % p.lengths in
    let below = mod_below c.args.number p.lengths (omega (arith, m.lawful.lengths)) in
    let long = m.long in
    let text = numbered m.buffer.items (get_or bytes 0 0) (get_or bytes 1 0) (get_or bytes 2 0) (get_or bytes 3 0) (p.shortest + c.args.number % p.lengths) (p.shortest + p.lengths - 4) behind (number_of m.channel)
    (omega (arith, long, m.lawful.numbered)) m.rest (omega (arith, m.lawful.numbered)) (omega (arith, below, m.lawful.numbered)) in
    text ∙ (λ i. get_or (e i) 0 0 ∷ get_or (e i) 1 0 ∷ get_or (e i) 2 0 ∷ get_or (e i) 3 0 ∷ replicate behind (number_of m.channel))
