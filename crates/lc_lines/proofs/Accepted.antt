-- Calls that proceed are calls that the peer accepts.
use Rattle.std.proofs.Common.{◌≡◌, ℕ, ◌+◌, ◌-◌, ◌<◌, inl, inr, true, List, [], ◌∷◌, length, Option, Some, None, refl, sym, ◌∙◌, ap, subst, arith}
use Rattle.std.specs.Prelude.{◌==◌, ◌&&◌, is_none, nat_le}
use Rattle.std.proofs.Math.ListN.{length-set}
use Rattle.std.specs.Option.{option_or}
use Rattle.std.proofs.lemmas.Bool.Decides.{nat_tests}
use Rattle.std.proofs.lemmas.List.{length_push}
use Rattle.lc_frame.specs.declared.channel.Channel.{Channel}
use Rattle.lc_frame.specs.Channel.{channel_count, number_of}
use Rattle.lc_frame.specs.declared.frame.Frame.{Frame}
use Rattle.lc_frame.specs.declared.frame.Frame.TheVariants.{Send, Absolve}
use Rattle.lc_book.specs.declared.fault.Refusal.{Refusal}
use Rattle.lc_book.specs.Client.{spend_refusal, honour_refusal as book_honour_refusal}
use Rattle.lc_peer.specs.Peer.{PeerState, client}
use Rattle.lc_peer.specs.Calls.{refusal, refusal_by_books, queue_refusal, put, due, absolving_refusal as peer_absolving_refusal, honour_refusal as peer_honour_refusal}
use Rattle.lc_lines.specs.declared.scheduler.Notice.{Notice}
use Rattle.lc_lines.specs.declared.queue.Bound.{Bound}
use Rattle.lc_lines.specs.declared.queue.Bound.TheVariants as kind
use Rattle.lc_lines.specs.Outbound.{kept, has_slot, has_control_slot, Counts}
use Rattle.lc_lines.specs.Bounds.{frame_of_bound, bound_refusal}
use Rattle.lc_lines.specs.declared.queue.Ask.{Ask}
use Rattle.lc_lines.specs.Queue.{ask_len}
use Rattle.lc_lines.specs.declared.permits.Aside.{Aside}
use Rattle.lc_lines.specs.Permits.{permits_on, with_permit, beyond_permits}
use Rattle.lc_lines.specs.Lines.{Ran}
use Rattle.lc_lines.specs.Scheduler.{SchedulerState, aside, free, is_able, can_bound, slot_refusal, absolving_refusal, honour_refusal, KeepsSlots, Proceeds, Grants, Completes, Bounds, Steps}
use Rattle.lc_lines.specs.Runs.{Accepts, RunsAreCalls}
use Rattle.lc_lines.proofs.Guarantees.{none_is}
use Rattle.lc_lines.proofs.Next.{first_of_both, second_of_both, able_parts}
use Rattle.lc_lines.proofs.Fields.{silent_bound, first_none, second_none, slot_none}
use Rattle.lc_lines.proofs.Queued.{counts_control}
use Rattle.lc_lines.proofs.Slots.{slots_push, slots_grant, slots_control}

both : (a b : Option Refusal) → a ≡ None → b ≡ None → option_or a b ≡ None
both None b ea eb = eb
both (Some r) b ea eb = cc

-- a message that has a slot finds the queue not full
free_queue : (p p' : PeerState) (h : List Aside) → p'.slots ≡ p.slots → length p'.waiting ≡ length p.waiting + 1 → KeepsSlots p' h → queue_refusal p ≡ None
free_queue p p' h slots len keeps =
    let lt : length p.waiting < p.slots = omega (arith, keeps.own) in
    grind (arith, nat_tests)

is_able_is : (s : SchedulerState) (c : Channel) (len : ℕ) → is_able s c len ≡ true → (is_none (spend_refusal (client s.peer c) len) ≡ true) × (has_slot s.peer s.asides c ≡ true)
is_able_is s c len able =
    let parts = able_parts s c len able in
    (first_of_both (is_none (spend_refusal (client s.peer c) len)) (nat_le len (free s c)) parts.0, parts.1)

-- a message that has its guarantees and a slot is accepted, and the slots stay within bounds
accepted : (s : SchedulerState) (c : Channel) (body : List ℕ) → is_able s c (length body) ≡ true → KeepsSlots s.peer s.asides → refusal s.peer (Send c body) ≡ None
accepted s c body able keeps =
    let both_are = is_able_is s c (length body) able in
    let after = slots_push s.peer s.asides c body keeps both_are.1 in
    both (spend_refusal (client s.peer c) (length body)) (queue_refusal s.peer) (none_is (spend_refusal (client s.peer c) (length body)) both_are.0)
    (free_queue s.peer (put s.peer (Send c body)) s.asides refl (length_push s.peer.waiting (Send c body)) after)

able_of : (n : Notice) (s s' : SchedulerState) (proceeds : Proceeds n s s') → is_able s n.channel (length proceeds.body) ≡ true
able_of n s s' proceeds = subst (λ (a : Ask). is_able s n.channel (ask_len a) ≡ true) proceeds.ask proceeds.next.able

able_to_hold : (n : Notice) (s s' : SchedulerState) (grants : Grants n s s') → is_able s n.channel grants.len ≡ true
able_to_hold n s s' grants = subst (λ (a : Ask). is_able s n.channel (ask_len a) ≡ true) grants.ask grants.next.able

-- what steps leave of slots and permits
record Leaves (s : SchedulerState) : Type 0 where
  pub slots : KeepsSlots s.peer s.asides
  pub permits : length s.asides ≡ channel_count

kept_by : (n : Notice) (s s' : SchedulerState) → Completes n s s' → Leaves s → Leaves s'
kept_by n s s' completes leaves = elim completes [
  | inl proceeds ↦ subst Leaves (sym proceeds.after) (record {
    slots = slots_push s.peer s.asides n.channel proceeds.body leaves.slots (is_able_is s n.channel (length proceeds.body) (able_of n s s' proceeds)).1;
    permits = leaves.permits;
  })
  | inr grants ↦ subst Leaves (sym grants.after) (record {
    slots = slots_grant s.peer s.asides n.channel grants.len leaves.permits leaves.slots (is_able_is s n.channel grants.len (able_to_hold n s s' grants)).1;
    permits = length-set s.asides (number_of n.channel) (with_permit (aside s n.channel) grants.len) ∙ leaves.permits;
  })
]

-- what a bound needs that can be put
pub record IsReady (s : SchedulerState) (c : Channel) (bound : Bound) : Type 0 where
  pub accepted : bound_refusal (client s.peer c) bound ≡ None
  pub permits : permits_on s.asides c ≡ 0
  pub slot : has_control_slot s.peer s.asides ≡ true

none_at : (n : ℕ) → (n == 0) ≡ true → n ≡ 0
none_at n e = grind (arith, nat_tests)

pub is_ready : (s : SchedulerState) (c : Channel) (bound : Bound) → can_bound s c bound ≡ true → IsReady s c bound
is_ready s c bound ready =
    let later = second_of_both (is_none (bound_refusal (client s.peer c) bound)) (permits_on s.asides c == 0 && has_control_slot s.peer s.asides) ready in
    record {
      accepted = none_is (bound_refusal (client s.peer c) bound) (first_of_both (is_none (bound_refusal (client s.peer c) bound)) (permits_on s.asides c == 0 && has_control_slot s.peer s.asides) ready);
      permits = none_at (permits_on s.asides c) (first_of_both (permits_on s.asides c == 0) (has_control_slot s.peer s.asides) later);
      slot = second_of_both (permits_on s.asides c == 0) (has_control_slot s.peer s.asides) later;
    }

book_of_bound : (p : PeerState) (c : Channel) (bound : Bound) → refusal_by_books p (frame_of_bound c bound) ≡ bound_refusal (client p c) bound
book_of_bound p c (kind.Limit n) = refl
book_of_bound p c kind.Finish = refl

-- a slot for a control frame is a free one
control_room : (p : PeerState) (h : List Aside) → has_control_slot p h ≡ true → queue_refusal p ≡ None
control_room p h slot =
    let free : kept p.waiting h < p.slots - length p.waiting = grind (arith, nat_tests) in
    let lt : length p.waiting < p.slots = omega arith in
    grind (arith, nat_tests)

-- a bound that can be put is accepted
pub accepted_bound : (s : SchedulerState) (c : Channel) (bound : Bound) → can_bound s c bound ≡ true → refusal s.peer (frame_of_bound c bound) ≡ None
accepted_bound s c bound ready =
    let is = is_ready s c bound ready in
    both (refusal_by_books s.peer (frame_of_bound c bound)) (queue_refusal s.peer) (book_of_bound s.peer c bound ∙ is.accepted) (control_room s.peer s.asides is.slot)

absolving_accepted : (s : SchedulerState) (c : Channel) (amount : Option ℕ) → absolving_refusal s c amount ≡ None → peer_absolving_refusal s.peer amount ≡ None
absolving_accepted s c None e = refl
absolving_accepted s c (Some n) e = control_room s.peer s.asides (slot_none (has_control_slot s.peer s.asides) (second_none (beyond_permits (client s.peer c) (aside s c) (Absolve c n)) (slot_refusal s) e))

-- a plead that is honoured is honoured at the peer
pub accepted_honour : (s : SchedulerState) (c : Channel) → honour_refusal s c ≡ None → peer_honour_refusal s.peer c ≡ None
accepted_honour s c e =
    both (book_honour_refusal (client s.peer c)) (peer_absolving_refusal s.peer (due s.peer c))
    (first_none (book_honour_refusal (client s.peer c)) (absolving_refusal s c (due s.peer c)) e)
    (absolving_accepted s c (due s.peer c) (second_none (book_honour_refusal (client s.peer c)) (absolving_refusal s c (due s.peer c)) e))

bound_leaves : (n : Notice) (s s' : SchedulerState) → Bounds n s s' → Leaves s → Leaves s'
bound_leaves n s s' bounds leaves =
    let f = frame_of_bound n.channel bounds.bound in
    let is = is_ready s n.channel bounds.bound bounds.ready in
    let silent = silent_bound n.channel bounds.bound in
    let same = counts_control s.peer.waiting s.asides f silent.message silent.bytes in
    subst Leaves (sym bounds.after) (record {
      slots = slots_control s.peer (put s.peer f) s.asides f leaves.slots is.slot refl refl (sym (ap (λ (x : Counts). x.kept) same)) silent.count;
      permits = leaves.permits;
    })

left_after : (n : Notice) (s s' : SchedulerState) → Steps n s s' → Leaves s → Leaves s'
left_after n s s' steps leaves = elim steps [
  | inl completes ↦ kept_by n s s' completes leaves
  | inr later ↦ elim later [
    | inl bounds ↦ bound_leaves n s s' bounds leaves
    | inr notifies ↦ subst Leaves (sym notifies.after) (record { slots = leaves.slots; permits = leaves.permits })
  ]
]

Puts : PeerState → PeerState → Type 0
Puts p p' = (frames : List Frame) × Accepts frames p p'

-- a step that leaves the peer as it is
puts_same : (p mid p' : PeerState) → mid ≡ p → Puts mid p' → Puts p p'
puts_same p mid p' e rest = subst (λ (q : PeerState). Puts q p') e rest

puts_completed : (n : Notice) (s mid : SchedulerState) (p' : PeerState) → Completes n s mid → Leaves s → Puts mid.peer p' → Puts s.peer p'
unfolding Puts
puts_completed n s mid p' completes leaves rest = elim completes [
  | inl proceeds ↦ let peer_is : mid.peer ≡ put s.peer (Send n.channel proceeds.body) = ap (λ (m : SchedulerState). m.peer) proceeds.after in
      (Send n.channel proceeds.body ∷ rest.0, (accepted s n.channel proceeds.body (able_of n s mid proceeds) leaves.slots, subst (λ (p : PeerState). Accepts rest.0 p p') peer_is rest.1))
  | inr grants ↦ puts_same s.peer mid.peer p' (ap (λ (m : SchedulerState). m.peer) grants.after) rest
]

puts_bound : (n : Notice) (s mid : SchedulerState) (p' : PeerState) → Bounds n s mid → Puts mid.peer p' → Puts s.peer p'
unfolding Puts
puts_bound n s mid p' bounds rest =
    let f = frame_of_bound n.channel bounds.bound in
    let peer_is : mid.peer ≡ put s.peer f = ap (λ (m : SchedulerState). m.peer) bounds.after in
    (f ∷ rest.0, (accepted_bound s n.channel bounds.bound bounds.ready, subst (λ (p : PeerState). Accepts rest.0 p p') peer_is rest.1))

puts_by : (n : Notice) (s mid : SchedulerState) (p' : PeerState) → Steps n s mid → Leaves s → Puts mid.peer p' → Puts s.peer p'
puts_by n s mid p' steps leaves rest = elim steps [
  | inl completes ↦ puts_completed n s mid p' completes leaves rest
  | inr later ↦ elim later [
    | inl bounds ↦ puts_bound n s mid p' bounds rest
    | inr notifies ↦ puts_same s.peer mid.peer p' (ap (λ (m : SchedulerState). m.peer) notifies.after) rest
  ]
]

runs_by : (ran : List Notice) (s s' : SchedulerState) → Leaves s → Ran ran s s' → Puts s.peer s'.peer
unfolding Puts
runs_by [] s s' leaves ran = ([], ap (λ (m : SchedulerState). m.peer) ran)
runs_by (n ∷ later) s s' leaves ran = puts_by n s ran.0 s'.peer ran.1.0 leaves (runs_by later ran.0 s' (left_after n s ran.0 ran.1.0 leaves) ran.1.1)

pub runs_are_calls : RunsAreCalls
unfolding Puts
runs_are_calls ran s s' keeps permits took = runs_by ran s s' (record { slots = keeps; permits = permits }) took
