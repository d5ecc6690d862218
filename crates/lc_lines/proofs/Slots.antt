-- The slots of the outbound queue stay within bounds.
use Rattle.std.proofs.Common.{◌≡◌, ℕ, zero, suc, ◌+◌, ◌-◌, ◌≤◌, ◌<◌, true, List, [], ◌∷◌, ◌++◌, length, drop, set, ap, ◌∙◌, arith}
use Rattle.std.specs.Prelude.{nat_lt, ◌==◌, ◌||◌}
use Rattle.std.proofs.lemmas.Bool.Decides.{nat_tests}
use Rattle.std.proofs.lemmas.List.{length_push}
use Rattle.lc_frame.specs.declared.channel.Channel.{Channel}
use Rattle.lc_frame.specs.Channel.{channel_count, number_of}
use Rattle.lc_frame.specs.declared.frame.Frame.{Frame}
use Rattle.lc_frame.specs.declared.frame.Frame.TheVariants.{Send}
use Rattle.lc_peer.specs.Peer.{PeerState}
use Rattle.lc_peer.specs.Calls.{put, without_next}
use Rattle.lc_lines.specs.declared.permits.Aside.{Aside}
use Rattle.lc_lines.specs.Permits.{no_permits, aside_on, permits_on, with_permit, without_permit}
use Rattle.lc_lines.specs.Outbound.{under_way, none, kept, message_count, message_one, has_slot, has_control_slot}
use Rattle.lc_lines.specs.Scheduler.{KeepsSlots}
use Rattle.lc_lines.proofs.Bytes.{count_push, count_few}
use Rattle.lc_lines.proofs.Queued.{kept_push, kept_drop, kept_after, kept_more, kept_less, void_kept, kept_used, none_small}

record Place (slots len kept' count : ℕ) : Type 0 where
  pub own : kept' + (len + 1) ≤ slots
  pub control : count + 1 + kept' + 7 ≤ slots

-- a slot for one thing more: the channel's own, or a shared one
place : (u slots len kept kept' count : ℕ) → (u == 0 || nat_lt 7 ((slots - len) - kept)) ≡ true → kept' + none u ≡ kept → kept + len ≤ slots → count + kept + 7 ≤ slots → count ≤ len → Place slots len kept' count
place zero slots len kept kept' count slot e own control few = record { own = omega arith; control = omega arith }
place (suc u) slots len kept kept' count slot e own control few =
    let free : 7 < (slots - len) - kept = grind (arith, nat_tests) in
    record { own = omega arith; control = omega arith }

pub slots_push : (p : PeerState) (h : List Aside) (c : Channel) (body : List ℕ) → KeepsSlots p h → has_slot p h c ≡ true → KeepsSlots (put p (Send c body)) h
slots_push p h c body keeps slot =
    let by = place (under_way p.waiting h c) p.slots (length p.waiting) (kept p.waiting h) (kept (p.waiting ++ Send c body ∷ []) h) (message_count p.waiting) slot (kept_push p.waiting h c body) keeps.own keeps.control (count_few p.waiting) in
    let len = length_push p.waiting (Send c body) in
    let count = count_push p.waiting (Send c body) in
    record { own = omega (arith, by.own); control = omega (arith, by.control) }

-- a message that has a slot may enter the queue
pub room : (p : PeerState) (h : List Aside) (c : Channel) → KeepsSlots p h → has_slot p h c ≡ true → none (under_way p.waiting h c) ≤ kept p.waiting h
room p h c keeps slot = let u = kept_push p.waiting h c [] in omega arith

record Held (slots len kept' count : ℕ) : Type 0 where
  pub own : kept' + len ≤ slots
  pub control : count + kept' + 7 ≤ slots

hold : (u slots len kept kept' count : ℕ) → (u == 0 || nat_lt 7 ((slots - len) - kept)) ≡ true → kept' + none u ≡ kept + 1 → kept + len ≤ slots → count + kept + 7 ≤ slots → count ≤ len → Held slots len kept' count
hold zero slots len kept kept' count slot e own control few = record { own = omega arith; control = omega arith }
hold (suc u) slots len kept kept' count slot e own control few =
    let free : 7 < (slots - len) - kept = grind (arith, nat_tests) in
    record { own = omega arith; control = omega arith }

-- a permit is granted that has a slot
pub slots_grant : (p : PeerState) (h : List Aside) (c : Channel) (len : ℕ) → length h ≡ channel_count → KeepsSlots p h → has_slot p h c ≡ true → KeepsSlots p (set h (number_of c) (with_permit (aside_on h c) len))
slots_grant p h c len places keeps slot =
    let by = hold (under_way p.waiting h c) p.slots (length p.waiting) (kept p.waiting h) (kept p.waiting (set h (number_of c) (with_permit (aside_on h c) len))) (message_count p.waiting) slot (kept_more p.waiting h c len places) keeps.own keeps.control (count_few p.waiting) in
    record { own = by.own; control = by.control }

-- a permit leaves its slot
pub slots_release : (p : PeerState) (h : List Aside) (c : Channel) (len : ℕ) → length h ≡ channel_count → 1 ≤ permits_on h c → KeepsSlots p h → KeepsSlots p (set h (number_of c) (without_permit (aside_on h c) len))
slots_release p h c len places one keeps =
    let gone = kept_less p.waiting h c len places one in
    let small = none_small (under_way p.waiting h c - 1) in
    record { own = omega (arith, keeps.own); control = omega (arith, keeps.control) }

-- one slot of its own is unused at most, where so much less is under way
fewer_kept : (u n : ℕ) → n ≤ u → none (u - n) ≤ none u + n
fewer_kept u zero le = let same : u - zero ≡ u = omega arith in let is = ap none same in omega arith
fewer_kept u (suc n) le = let small = none_small (u - suc n) in omega arith

-- all permits of a channel leave their slots
pub slots_void : (p : PeerState) (h : List Aside) (c : Channel) → length h ≡ channel_count → KeepsSlots p h → KeepsSlots p (set h (number_of c) no_permits)
slots_void p h c places keeps =
    let u = void_kept p.waiting h c places in
    let few = fewer_kept (under_way p.waiting h c) (permits_on h c) (omega arith) in
    record { own = omega (arith, keeps.own); control = omega (arith, keeps.control) }

-- a message takes the slot of its permit
pub slots_reserved : (p : PeerState) (h : List Aside) (c : Channel) (len : ℕ) (body : List ℕ) → length h ≡ channel_count → 1 ≤ permits_on h c → KeepsSlots p h → KeepsSlots (put p (Send c body)) (set h (number_of c) (without_permit (aside_on h c) len))
slots_reserved p h c len body places one keeps =
    let used = kept_used p.waiting h c len body places one in
    let more = length_push p.waiting (Send c body) in
    let count = count_push p.waiting (Send c body) in
    record { own = omega (arith, keeps.own); control = omega (arith, keeps.control) }

own_next : (frames : List Frame) (h : List Aside) (slots : ℕ) → kept frames h + length frames ≤ slots → kept (drop 1 frames) h + length (drop 1 frames) ≤ slots
own_next [] h slots le = le
own_next (g ∷ w) h slots le = let more = kept_after g w h in omega arith

-- a control frame that has a slot leaves the bounds as they were
pub slots_control : (p p' : PeerState) (h : List Aside) (f : Frame) → KeepsSlots p h → has_control_slot p h ≡ true → p'.slots ≡ p.slots → p'.waiting ≡ p.waiting ++ f ∷ [] → kept (p.waiting ++ f ∷ []) h ≡ kept p.waiting h → message_one f ≡ 0 → KeepsSlots p' h
slots_control p p' h f keeps slot slots waiting same none_in =
    let free : kept p.waiting h < p.slots - length p.waiting = grind (arith, nat_tests) in
    let len = length_push p.waiting f in
    let count = count_push p.waiting f in
    let kept_is : kept p'.waiting h ≡ kept p.waiting h = ap (λ (w : List Frame). kept w h) waiting ∙ same in
    let len_is : length p'.waiting ≡ length p.waiting + 1 = ap length waiting ∙ len in
    let count_is : message_count p'.waiting ≡ message_count p.waiting = ap message_count waiting ∙ omega arith in
    record { own = omega (arith, keeps.own, slots); control = omega (arith, keeps.control, slots) }

-- a frame that leaves leaves the bounds as they were
pub slots_next : (p : PeerState) (h : List Aside) → KeepsSlots p h → KeepsSlots (without_next p) h
slots_next p h keeps = record {
  own = own_next p.waiting h p.slots keeps.own;
  control = omega (arith, kept_drop p.waiting h, keeps.control);
}
