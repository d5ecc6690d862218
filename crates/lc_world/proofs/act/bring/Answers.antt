use Rattle.std.proofs.Common.{ℕ, List, refl, ap₂, drop, take, arith}
use Rattle.lc_world.proofs.Brings.{nothing_stops, delivery_brings}
use Rattle.lc_world.proofs.act.bring.Goals as goal

pub returns : goal.returns
returns c = delivery_brings c.args.me.now c.args.peer.now c.requires.in_step c.args.count c.requires.within _ (ap₂ (λ (n : ℕ) (x : List ℕ). take n (drop c.args.peer.now.delivered x)) (omega arith) c.deref.ensures.value) c.deliver-delivery.result c.deliver-delivery.new.self c.deliver-delivery.new.decoder c.deliver-delivery.ensures _ _ c.in-None.is refl refl refl refl refl refl refl refl

pub unreachable-requires : goal.unreachable-requires
unreachable-requires c = nothing_stops c.args.me.now c.args.peer.now c.requires.in_step c.args.count c.requires.within _ (ap₂ (λ (n : ℕ) (x : List ℕ). take n (drop c.args.peer.now.delivered x)) (omega arith) c.deref.ensures.value) c.deliver-delivery.result c.deliver-delivery.new.self c.deliver-delivery.new.decoder c.deliver-delivery.ensures c.in-Some.field-0 c.in-Some.is
