use Rattle.std.proofs.Common.{ℕ, ◌≡◌, ◌≤◌, List, [], ◌∷◌, length, subst, sym, ap, arith}
use Rattle.std.specs.Prelude.{replicate}
use Rattle.std.proofs.lemmas.Grind.{common_steps}
use Rattle.lc_frame.specs.Bounds.{max_slots}
use Rattle.lc_frame.specs.Channel.{channel_count}
use Rattle.lc_peer.specs.Config.{new_peer}
use Rattle.lc_peer.specs.Peer.{PeerState}
use Rattle.lc_lines.specs.declared.permits.Aside.{Aside}
use Rattle.lc_lines.specs.Permits.{none_aside}
use Rattle.lc_lines.specs.Queue.{QueueState, empty_queue}
use Rattle.lc_lines.specs.Outbound.{least_slots, Counts}
use Rattle.lc_lines.specs.Scheduler.{AreSchedulerFields}
use Rattle.lc_lines.proofs.Fields.{new_fields}
use Rattle.lc_lines.proofs.scheduler.Scheduler.new.Goals as goal

pub invariant_of-result : goal.invariant_of-result
invariant_of-result c =
    let config = c.args.config in
    let p = c.in_ok-peer.peer in
    let queues : List QueueState = c.new-2.result ∷ c.new-3.result ∷ c.new-4.result ∷ c.new-5.result ∷ c.new-6.result ∷ c.new-7.result ∷ c.new-8.result ∷ [] in
    let queues_are : queues ≡ replicate channel_count empty_queue = cc (c.new-2.ensures, c.new-3.ensures, c.new-4.ensures, c.new-5.ensures, c.new-6.ensures, c.new-7.ensures, c.new-8.ensures) in
    let asides : List Aside = c.none.result ∷ c.none.result ∷ c.none.result ∷ c.none.result ∷ c.none.result ∷ c.none.result ∷ c.none.result ∷ [] in
    let asides_are : asides ≡ none_aside = cc c.none.ensures in
    let some : least_slots ≤ config.slots = omega arith in
    let peer_is = c.in_ok-peer.ensures.value in
    let few : config.slots ≤ max_slots = subst (λ (n : ℕ). n ≤ max_slots) (ap (λ (q : PeerState). q.slots) peer_is) c.waiting-count.ensures.kept.bound.at_most in
    let rings : length config.capacities ≡ channel_count = grind (arith, common_steps) in
    subst (λ (q : PeerState). AreSchedulerFields q queues asides 0 0 0 c.new-9.result) (sym peer_is)
    (subst (λ (x : List QueueState). AreSchedulerFields (new_peer config) x asides 0 0 0 c.new-9.result) (sym queues_are)
    (subst (λ (x : List Aside). AreSchedulerFields (new_peer config) (replicate channel_count empty_queue) x 0 0 0 c.new-9.result) (sym asides_are)
    (subst (λ (x : Counts). AreSchedulerFields (new_peer config) (replicate channel_count empty_queue) none_aside 0 0 0 x) (sym c.new-9.ensures) (new_fields config some few rings))))
