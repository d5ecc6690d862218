use Rattle.std.proofs.Common.{ap, ◌∙◌, arith, length}
use Rattle.lc_frame.specs.declared.version.Version.{Version}
use Rattle.lc_frame.specs.Version.{greeting}
use Rattle.lc_world.proofs.Deliveries.{held_is_within, start_at_greeting, start_behind}
use Rattle.lc_world.proofs.act.first_place.Goals as goal

pub overflow_sub-peer : goal.overflow_sub-peer
overflow_sub-peer c = omega (arith, c.stored-stored.ensures.value, held_is_within c.args.me.now c.args.peer.now c.requires)

pub overflow_sub-result : goal.overflow_sub-result
overflow_sub-result c = omega (arith, c.stored-stored.ensures.value, held_is_within c.args.me.now c.args.peer.now c.requires)

pub returns-then-peer-stored : goal.returns-then-peer-stored
returns-then-peer-stored c = start_at_greeting c.args.me.now c.args.peer.now c.requires _ c.stored-stored.result (ap length c.greeting-greeting.ensures ∙ ap (λ (v : Version). length (greeting v)) c.version.ensures) c.stored-stored.ensures.value c.if-peer-stored.true

pub returns-else-peer-stored : goal.returns-else-peer-stored
returns-else-peer-stored c = start_behind c.args.me.now c.args.peer.now c.requires _ c.stored-stored.result (ap length c.greeting-greeting.ensures ∙ ap (λ (v : Version). length (greeting v)) c.version.ensures) c.stored-stored.ensures.value c.if-peer-stored.false
