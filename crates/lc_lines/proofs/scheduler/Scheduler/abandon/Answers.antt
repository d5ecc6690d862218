use Rattle.std.proofs.Common.{◌≡◌, ℕ, ◌≤◌, ◌<◌, length, get_or, ap, ◌∙◌, arith}
use Rattle.std.proofs.lemmas.Grind.{common_steps}
use Rattle.lc_lines.specs.Queue.{QueueState}
use Rattle.lc_lines.specs.Outbound.{without_permits}
use Rattle.lc_lines.specs.Permits.{no_permits}
use Rattle.lc_lines.proofs.Fields.{abandon_fields}
use Rattle.lc_lines.proofs.Stamps.{sent_set, sent_at}
use Rattle.lc_lines.proofs.scheduler.Scheduler.abandon.Goals as goal

pub invariant_of-self : goal.invariant_of-self
invariant_of-self c =
    let p = c.self.inside.peer in
    let queues = c.self.inside.queues in
    let here : c.index-at.result < length queues = omega (arith, c.index-at.ensures.range, c.self.invariant.places) in
    let le : (get_or queues c.index-at.result c.index-self-at.result).last ≤ c.self.inside.sent = sent_at c.self.inside.sent queues c.index-at.result c.index-self-at.result here c.self.invariant.stamps in
    let last : c.clear.new.self.last ≡ (get_or queues c.index-at.result c.index-self-at.result).last = ap (λ (q : QueueState). q.last) c.clear.ensures in
    abandon_fields p queues _ c.self.inside.asides _ c.self.inside.sent c.self.inside.begun c.self.inside.exempt c.self.inside.counts c.void.new.self c.args.channel
    (grind (arith, common_steps))
    (sent_set c.self.inside.sent queues c.index-at.result c.clear.new.self (omega (arith, le, last)) c.self.invariant.stamps)
    (grind (arith, common_steps))
    (c.void.ensures ∙ ap (λ (i : ℕ). without_permits c.self.inside.counts c.args.channel (get_or c.self.inside.asides i no_permits).permits) c.index-at.ensures.value)
    c.self.invariant
