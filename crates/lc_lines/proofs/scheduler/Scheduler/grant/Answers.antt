use Rattle.std.proofs.Common.{◌<◌, ◌^◌, ◌≡◌, true, ap, sym, subst, arith}
use Rattle.std.specs.Prelude.{is_none, nat_le}
use Rattle.std.proofs.lemmas.Grind.{common_steps}
use Rattle.lc_book.specs.Client.{spend_refusal}
use Rattle.lc_peer.specs.Peer.{client}
use Rattle.lc_lines.specs.Queue.{QueueState}
use Rattle.lc_lines.specs.Outbound.{has_slot}
use Rattle.lc_lines.specs.Scheduler.{SchedulerState, count_after, has_guarantees, free}
use Rattle.lc_lines.proofs.Fields.{grant_fields, few_under_way, few_kept}
use Rattle.lc_lines.proofs.Guarantees.{none_is}
use Rattle.lc_lines.proofs.Next.{first_of_both, second_of_both}
use Rattle.lc_lines.proofs.Stamps.{sent_now}
use Rattle.lc_lines.proofs.scheduler.Scheduler.grant.Goals as goal

pub grant-requires-clause-under_way : goal.grant-requires-clause-under_way
grant-requires-clause-under_way c =
    few_under_way c.self.inside.peer c.self.inside.queues c.self.inside.asides c.self.inside.sent c.self.inside.begun c.self.inside.exempt c.self.inside.counts c.args.channel c.self.invariant

pub grant-requires-clause-kept : goal.grant-requires-clause-kept
grant-requires-clause-kept c =
    few_kept c.self.inside.peer c.self.inside.queues c.self.inside.asides c.self.inside.sent c.self.inside.begun c.self.inside.exempt c.self.inside.counts c.self.invariant

pub invariant_of-self : goal.invariant_of-self
invariant_of-self c =
    let p = c.self.inside.peer in
    let h = c.self.inside.asides in
    let len = c.args.len in
    let old : SchedulerState = record { peer = p; queues = c.self.inside.queues; asides = h; sent = c.self.inside.sent; begun = c.self.inside.begun; exempt = c.self.inside.exempt; left = c.self.inside.left } in
    let able : (has_guarantees old c.args.channel len ≡ true) × (has_slot p h c.args.channel ≡ true) = subst (λ (s : SchedulerState). (has_guarantees s c.args.channel len ≡ true) × (has_slot s.peer s.asides c.args.channel ≡ true)) (sym c.self.view_is) (first_of_both (has_guarantees c.args.self.now c.args.channel len) (has_slot c.args.self.now.peer c.args.self.now.asides c.args.channel) c.requires, second_of_both (has_guarantees c.args.self.now c.args.channel len) (has_slot c.args.self.now.peer c.args.self.now.asides c.args.channel) c.requires) in
    let free_is : nat_le len (free old c.args.channel) ≡ true = second_of_both (is_none (spend_refusal (client p c.args.channel) len)) (nat_le len (free old c.args.channel)) able.0 in
    let accepted = none_is (spend_refusal (client p c.args.channel) len) (first_of_both (is_none (spend_refusal (client p c.args.channel) len)) (nat_le len (free old c.args.channel)) able.0) in
    let turn : c.saturating_add-sent.result ≡ count_after c.self.inside.sent = c.saturating_add-sent.ensures in
    let small : c.self.inside.sent < 2 ^ 64 = omega arith in
    let last : c.note_sent.new.self.last ≡ c.saturating_add-sent.result = ap (λ (q : QueueState). q.last) c.note_sent.ensures in
    grant_fields p c.self.inside.queues _ h _ c.self.inside.sent c.saturating_add-sent.result c.self.inside.begun c.self.inside.exempt c.self.inside.counts c.grant.new.self c.args.channel len
    (grind (arith, common_steps))
    (grind (arith, common_steps))
    (sent_now c.self.inside.sent c.saturating_add-sent.result c.self.inside.queues c.index-at.result c.note_sent.new.self small turn last c.self.invariant.stamps)
    c.grant.ensures able.1 accepted free_is c.self.invariant
