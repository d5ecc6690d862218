use Rattle.std.proofs.Common.{◌+◌, ◌<◌, ◌^◌, ◌≡◌, ℕ, true, length, ap, sym, subst, ◌∙◌, arith}
use Rattle.std.specs.Prelude.{is_none, nat_le}
use Rattle.std.proofs.lemmas.Grind.{common_steps}
use Rattle.lc_book.specs.Client.{Client, spend_refusal}
use Rattle.lc_peer.specs.Peer.{client}
use Rattle.lc_lines.specs.Queue.{QueueState}
use Rattle.lc_lines.specs.Outbound.{with_message, message_bytes, fits, has_slot}
use Rattle.lc_lines.specs.Scheduler.{SchedulerState, count_after, unwritten, has_guarantees, free}
use Rattle.lc_lines.proofs.Fields.{push_fields, few_under_way}
use Rattle.lc_lines.proofs.Guarantees.{none_is, valid_send}
use Rattle.lc_lines.proofs.Next.{first_of_both, second_of_both}
use Rattle.lc_lines.proofs.Stamps.{sent_now}
use Rattle.lc_lines.proofs.scheduler.Scheduler.put.Goals as goal

pub enter-requires-clause-under_way : goal.enter-requires-clause-under_way
enter-requires-clause-under_way c =
    few_under_way c.self.inside.peer c.self.inside.queues c.self.inside.asides c.self.inside.sent c.self.inside.begun c.self.inside.exempt c.self.inside.counts c.args.channel c.self.invariant

pub invariant_of-self : goal.invariant_of-self
invariant_of-self c =
    let p = c.self.inside.peer in
    let h = c.self.inside.asides in
    let body = c.args.body in
    let len : length c.as_slice-len.result.now ≡ length body = ap length c.as_slice-len.ensures in
    let old : SchedulerState = record { peer = p; queues = c.self.inside.queues; asides = h; sent = c.self.inside.sent; begun = c.self.inside.begun; exempt = c.self.inside.exempt; left = c.self.inside.left } in
    let able : (has_guarantees old c.args.channel (length body) ≡ true) × (has_slot p h c.args.channel ≡ true) = subst (λ (s : SchedulerState). (has_guarantees s c.args.channel (length body) ≡ true) × (has_slot s.peer s.asides c.args.channel ≡ true)) (sym c.self.view_is) (first_of_both (has_guarantees c.args.self.now c.args.channel (length body)) (has_slot c.args.self.now.peer c.args.self.now.asides c.args.channel) c.requires.accepted, second_of_both (has_guarantees c.args.self.now c.args.channel (length body)) (has_slot c.args.self.now.peer c.args.self.now.asides c.args.channel) c.requires.accepted) in
    let free_is : nat_le (length body) (free old c.args.channel) ≡ true = second_of_both (is_none (spend_refusal (client p c.args.channel) (length body))) (nat_le (length body) (free old c.args.channel)) able.0 in
    let bytes : fits (message_bytes p.waiting + c.self.inside.begun) (length body) ≡ true = subst (λ (s : SchedulerState). fits (unwritten s) (length body) ≡ true) (sym c.self.view_is) c.requires.bytes in
    let allowed = none_is (spend_refusal (client p c.args.channel) (length body)) (first_of_both (is_none (spend_refusal (client p c.args.channel) (length body))) (nat_le (length body) (free old c.args.channel)) able.0) in
    let valid = valid_send p.version (client p c.args.channel) c.args.channel body (ap (λ (b : Client). b.version) (sym c.client-book.ensures.value) ∙ c.client-book.ensures.version) allowed in
    let turn : c.saturating_add-sent.result ≡ count_after c.self.inside.sent = c.saturating_add-sent.ensures in
    let small : c.self.inside.sent < 2 ^ 64 = omega arith in
    let last : c.note_sent.new.self.last ≡ c.saturating_add-sent.result = ap (λ (q : QueueState). q.last) c.note_sent.ensures in
    push_fields p c.send_owned.new.self c.self.inside.queues _ h c.self.inside.sent c.saturating_add-sent.result c.self.inside.begun c.self.inside.exempt c.self.inside.counts c.enter.new.self p.version c.args.channel body
    c.send_owned.ensures
    (grind (arith, common_steps))
    (sent_now c.self.inside.sent c.saturating_add-sent.result c.self.inside.queues c.index-at.result c.note_sent.new.self small turn last c.self.invariant.stamps)
    (c.enter.ensures ∙ ap (λ (n : ℕ). with_message c.self.inside.counts c.args.channel n) len)
    able.1 free_is bytes c.waiting-count.ensures.kept.each valid c.self.invariant
