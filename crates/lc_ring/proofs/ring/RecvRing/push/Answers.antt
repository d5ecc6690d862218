use Rattle.std.proofs.Common.{sym, ap, ◌∙◌, arith, rules}
use Rattle.lc_ring.specs.Ring.{Ring, bytes, free, push}
use Rattle.lc_ring.proofs.Cuts.{bytes-shown, sum-lengths, bytes-push, push_is_one, shown-push}
use Rattle.lc_ring.proofs.ring.RecvRing.push.Goals as goal

pub returns-then-message-free-clause-answer : goal.returns-then-message-free-clause-answer
returns-then-message-free-clause-answer c = search rules

pub push-requires-clause-room : goal.push-requires-clause-room
push-requires-clause-room c =
    let room = c.free-free.ensures.value ∙ sym (ap free c.self.view_is) in
    omega (arith, room, bytes-shown c.self.inside.lengths c.self.inside.bytes c.self.inside.until_cut c.self.invariant, c.if-message-free.false, c.requires.at_least)

pub push_back-requires-clause-room : goal.push_back-requires-clause-room
push_back-requires-clause-room c =
    let room = c.free-free.ensures.value ∙ sym (ap free c.self.view_is) in
    let ls = c.self.inside.lengths in
    let bs = c.self.inside.bytes in
    omega (arith, room, bytes-shown ls bs c.self.inside.until_cut c.self.invariant, sum-lengths ls bs c.self.inside.until_cut c.self.invariant, c.self.invariant.same, c.if-message-free.false, c.requires.at_least)

pub invariant_of-self : goal.invariant_of-self
invariant_of-self c =
    let room = c.free-free.ensures.value ∙ sym (ap free c.self.view_is) in
    push_is_one c.self.inside.lengths c.push_back.new.self c.self.inside.bytes c.push.new.self c.args.message.now c.self.inside.until_cut c.self.invariant c.requires.at_least c.requires.at_most
    (omega (arith, room, bytes-shown c.self.inside.lengths c.self.inside.bytes c.self.inside.until_cut c.self.invariant, c.if-message-free.false, c.requires.at_least)) c.push.ensures c.push_back.ensures

pub returns-clause-after : goal.returns-clause-after
returns-clause-after c =
    let room = c.free-free.ensures.value ∙ sym (ap free c.self.view_is) in
    shown-push c.self.inside.lengths c.push_back.new.self c.self.inside.bytes c.push.new.self c.args.message.now c.self.inside.until_cut c.self.invariant c.requires.at_least c.requires.at_most
    (omega (arith, room, bytes-shown c.self.inside.lengths c.self.inside.bytes c.self.inside.until_cut c.self.invariant, c.if-message-free.false, c.requires.at_least)) c.push.ensures c.push_back.ensures
    ∙ ap (λ (r : Ring). push r c.args.message.now) c.self.view_is

pub returns-clause-grows : goal.returns-clause-grows
returns-clause-grows c = ap bytes (returns-clause-after c) ∙ bytes-push c.args.self.now c.args.message.now
