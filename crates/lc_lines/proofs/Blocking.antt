-- A first call that has its guarantees and a slot waits for bytes alone.
use Rattle.std.proofs.Common.{◌≡◌, ◌≤◌, ℕ, ◌⊎◌, inl, inr, Bool, true, false, List, [], ◌∷◌, Option, Some, None, refl, sym, subst, arith}
use Rattle.std.specs.Prelude.{◌&&◌, ◌||◌, nat_le, is_none}
use Rattle.std.specs.List.{AllByRecursion}
use Rattle.std.proofs.lemmas.Bool.Decides.{nat_tests}
use Rattle.lc_frame.specs.declared.channel.Channel.{Channel}
use Rattle.lc_lines.specs.declared.queue.Call.{Call}
use Rattle.lc_book.specs.Client.{Client, spend_refusal}
use Rattle.lc_peer.specs.Peer.{client}
use Rattle.lc_lines.specs.declared.queue.Ask.{Ask}
use Rattle.lc_lines.specs.declared.queue.Ask.TheVariants.{Message, Offer, Permit, End}
use Rattle.lc_lines.specs.Queue.{ask_len, call_len}
use Rattle.lc_lines.specs.Outbound.{every_channel, fits, is_own_free, is_shared_free}
use Rattle.lc_lines.specs.Scheduler.{SchedulerState, queue, front, unwritten, has_guarantees, may_share, is_able, is_able_call, waits_for_bytes, is_no_later, is_turn_among, is_turn, can_proceed, can_ask_proceed, can_call_proceed, IsSettled}
use Rattle.lc_lines.specs.Blocking.{WaitsForBytesOf, FirstCallsWaitForBytes, NoHeadOfLineBlocking}
use Rattle.lc_lines.proofs.Next.{of_every}

-- the first call of a channel does not wait for bytes
abbrev IsNotWaiting : SchedulerState → Channel → Type 0
IsNotWaiting s d = waits_for_bytes s d ≡ false

-- if it does, a channel sent no later
abbrev SentNoLater : SchedulerState → Channel → Channel → Type 0
SentNoLater s c d = waits_for_bytes s d ≡ true → (queue s c).last ≤ (queue s d).last

-- of these channels, none waits for bytes, or this one sent least recently of those that do
record Least (s : SchedulerState) (cs : List Channel) : Type 0 where
  pub channel : Channel
  pub waits : waits_for_bytes s channel ≡ true
  pub least : AllByRecursion (SentNoLater s channel) cs

none_later : (s : SchedulerState) (c : Channel) (cs : List Channel) → AllByRecursion (IsNotWaiting s) cs → AllByRecursion (SentNoLater s c) cs
none_later s c [] h = tt
none_later s c (d ∷ cs) h = let not : waits_for_bytes s d ≡ false = h.0 in ((λ e. cc), none_later s c cs h.1)

still_later : (s : SchedulerState) (c b : Channel) (cs : List Channel) → (queue s c).last ≤ (queue s b).last → AllByRecursion (SentNoLater s b) cs → AllByRecursion (SentNoLater s c) cs
still_later s c b [] le h = tt
still_later s c b (d ∷ cs) le h = ((λ e. let later : (queue s b).last ≤ (queue s d).last = h.0 e in omega arith), still_later s c b cs le h.1)

chosen : (s : SchedulerState) (c : Channel) (cs : List Channel) (l : Least s cs) (le : Bool) → nat_le (queue s c).last (queue s l.channel).last ≡ le → waits_for_bytes s c ≡ true → Least s (c ∷ cs)
chosen s c cs l true is waits =
    let le : (queue s c).last ≤ (queue s l.channel).last = grind (arith, nat_tests) in
    record { channel = c; waits = waits; least = ((λ e. omega arith), still_later s c l.channel cs le l.least) }
chosen s c cs l false is waits =
    let le : (queue s l.channel).last ≤ (queue s c).last = grind (arith, nat_tests) in
    record { channel = l.channel; waits = l.waits; least = ((λ e. le), l.least) }

joined : (s : SchedulerState) (c : Channel) (cs : List Channel) (b : Bool) → waits_for_bytes s c ≡ b → AllByRecursion (IsNotWaiting s) cs ⊎ Least s cs → AllByRecursion (IsNotWaiting s) (c ∷ cs) ⊎ Least s (c ∷ cs)
joined s c cs true is h = elim h [ inl none ↦ inr (record { channel = c; waits = is; least = ((λ e. omega arith), none_later s c cs none) }) | inr l ↦ inr (chosen s c cs l (nat_le (queue s c).last (queue s l.channel).last) refl is) ]
joined s c cs false is h = elim h [ inl none ↦ inl (is, none) | inr l ↦ inr (record { channel = l.channel; waits = l.waits; least = ((λ e. cc), l.least) }) ]

among : (s : SchedulerState) (cs : List Channel) → AllByRecursion (IsNotWaiting s) cs ⊎ Least s cs
among s [] = inl tt
among s (c ∷ cs) = joined s c cs (waits_for_bytes s c) refl (among s cs)

no_later : (s : SchedulerState) (c d : Channel) (b : Bool) → waits_for_bytes s d ≡ b → SentNoLater s c d → is_no_later s c d ≡ true
no_later s c d true is le = let at : (queue s c).last ≤ (queue s d).last = le is in let yes : nat_le (queue s c).last (queue s d).last ≡ true = grind (arith, nat_tests) in rw is yes
no_later s c d false is le = rw is refl

turn_among : (s : SchedulerState) (c : Channel) (cs : List Channel) → AllByRecursion (SentNoLater s c) cs → is_turn_among s c cs ≡ true
turn_among s c [] h = refl
turn_among s c (d ∷ cs) h =
    let now = no_later s c d (waits_for_bytes s d) refl h.0 in
    let later = turn_among s c cs h.1 in
    rw (now, later) refl

full_by : (able fit turn : Bool) → able ≡ true → turn ≡ true → (able && (fit && turn)) ≡ false → fit ≡ false
full_by true false turn a t e = refl
full_by true true true a t e = cc
full_by true true false a t e = cc
full_by false fit turn a t e = cc

-- a bound has no bytes, and no message of none has its guarantees
none_refused : (b : Client) (finished : Bool) → b.finished ≡ finished → is_none (spend_refusal b 0) ≡ false
none_refused b true e = rw e refl
none_refused b false e = rw e refl

both_false : (a b : Bool) → a ≡ false → (a && b) ≡ false
both_false true b e = cc
both_false false b e = refl

none_is_able : (s : SchedulerState) (c : Channel) → is_able s c 0 ≡ false
none_is_able s c =
    let b = client s.peer c in
    both_false (has_guarantees s c 0) _ (both_false (is_none (spend_refusal b 0)) _ (none_refused b b.finished refl))

cannot : (s : SchedulerState) (c : Channel) (ask : Ask) → is_able s c (ask_len ask) ≡ true → can_ask_proceed s c ask ≡ false → can_proceed s c (ask_len ask) ≡ false
cannot s c (Message body) able e = e
cannot s c (Offer len) able e = e
cannot s c (Permit len) able e = e
cannot s c (End bound) able e = let not = none_is_able s c in cc

-- the least of those that wait for bytes has no room
waits_of : (s : SchedulerState) (c d : Channel) (first : Option Call) → front s d ≡ first → is_able_call s d first ≡ true → is_turn s d ≡ true → can_call_proceed s d first ≡ false → (queue s d).last ≤ (queue s c).last → WaitsForBytesOf s c d
waits_of s c d None is able turn not le = cc
waits_of s c d (Some call) is able turn not le = record {
  call = call;
  first = is;
  before = le;
  full = full_by (is_able s d (call_len call)) (fits (unwritten s) (call_len call)) (is_turn s d) able turn (cannot s d call.ask able not);
}

pub first_calls_wait_for_bytes : FirstCallsWaitForBytes
first_calls_wait_for_bytes s c settled waits = elim (among s every_channel) [
  | inl none ↦ let not : waits_for_bytes s c ≡ false = of_every (IsNotWaiting s) none c in cc
  | inr l ↦ (l.channel, waits_of s c l.channel (front s l.channel) refl l.waits (turn_among s l.channel every_channel l.least) (settled l.channel) (of_every (SentNoLater s l.channel) l.least c waits))
]

fits_none : (n len : ℕ) → n ≡ 0 → fits n len ≡ false → ⊥
fits_none n len zero full = grind (arith, nat_tests)

own_able : (guarantees own shared share : Bool) → guarantees ≡ true → own ≡ true → (guarantees && ((own || shared) && (own || share))) ≡ true
own_able true true shared share g o = refl
own_able true false shared share g o = cc
own_able false own shared share g o = cc

no_blocking_by : (s : SchedulerState) (c : Channel) (call : Call) (b : Bool) → has_guarantees s c (call_len call) ≡ b → IsSettled s → unwritten s ≡ 0 → front s c ≡ Some call → is_own_free s.peer s.asides c ≡ true → b ≡ false
no_blocking_by s c call false is settled empty first own = refl
no_blocking_by s c call true is settled empty first own =
    let able : is_able s c (call_len call) ≡ true = own_able (has_guarantees s c (call_len call)) (is_own_free s.peer s.asides c) (is_shared_free s.peer s.asides) (may_share s c) is own in
    let waits : waits_for_bytes s c ≡ true = subst (λ (o : Option Call). is_able_call s c o ≡ true) (sym first) able in
    let of = first_calls_wait_for_bytes s c settled waits in
    absurd (fits_none (unwritten s) (call_len of.1.call) empty of.1.full)

pub no_head_of_line_blocking : NoHeadOfLineBlocking
no_head_of_line_blocking s c call settled empty first own =
    no_blocking_by s c call (has_guarantees s c (call_len call)) refl settled empty first own
