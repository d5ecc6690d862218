-- While a first call waits for bytes alone, each other channel sends once at most.
use Rattle.std.proofs.Common.{◌≡◌, ◌≢◌, ℕ, ◌+◌, ◌-◌, ◌^◌, ◌<◌, ◌≤◌, Bool, true, false, if◌then◌else◌, List, [], ◌∷◌, length, Option, Some, None, refl, sym, ap, ◌∙◌, subst, arith}
use Rattle.std.specs.Prelude.{nat_le, min}
use Rattle.std.specs.List.{AllByRecursion}
use Rattle.std.proofs.lemmas.List.{get_or-set_same, get_or-set_other}
use Rattle.std.proofs.lemmas.Bool.Decides.{nat_tests}
use Rattle.std.proofs.Math.ListN.{length-set}
use Rattle.lc_frame.specs.declared.channel.Channel.{Channel}
use Rattle.lc_frame.specs.Channel.{channel_count, number_of, is_same}
use Rattle.lc_frame.proofs.Channels.{number_below, same_from_number}
use Rattle.lc_lines.specs.Queue.{QueueState, empty_queue, without_first}
use Rattle.lc_lines.specs.Outbound.{every_channel}
use Rattle.lc_lines.specs.Scheduler.{SchedulerState, queue, waits_for_bytes, is_no_later, is_turn_among, is_turn, count_after, with_queue, send, proceed, grant, proceed_by_grant, SentBy}
use Rattle.lc_lines.specs.Fair.{SendsOn, Happens, IsNotOf, Passes, AreCounted, EachSendsOnceMeanwhile, EachCallIsCounted}
use Rattle.lc_lines.proofs.Next.{of_every, first_of_both, second_of_both}
use Rattle.lc_lines.proofs.Stamps.{sent_at}

-- since so many messages were sent one channel sent, and another did not
record Since (t : ℕ) (c d : Channel) (s : SchedulerState) : Type 0 where
  pub sent : t < s.sent
  pub last : t < (queue s c).last
  pub other : (queue s d).last ≤ t

later_count : (t n : ℕ) → t < 2 ^ 64 - 1 → t ≤ n → t < min (n + 1) (2 ^ 64 - 1)
later_count t n few le = omega arith

sent_since : (b : Bool) (t : ℕ) (c g : Channel) (s mid : SchedulerState) → is_same c g ≡ b → t < 2 ^ 64 - 1 → SendsOn g s mid → t < s.sent → t < (queue s c).last → t < (queue mid c).last
sent_since true t c g s mid e few sends lt last =
    let number : number_of c ≡ number_of g = grind (arith, nat_tests) in
    let le : t ≤ s.sent = omega arith in
    let now : t < (queue mid g).last = subst (λ (n : ℕ). t < n) (sym sends.here) (later_count t s.sent few le) in
    subst (λ (x : Channel). t < (queue mid x).last) (sym (same_from_number c g number)) now
sent_since false t c g s mid e few sends lt last = subst (λ (n : ℕ). t < n) (sym (sends.there c e)) last

since_step : (t : ℕ) (c d : Channel) (e : Option Channel) (s mid : SchedulerState) → t < 2 ^ 64 - 1 → Happens e s mid → IsNotOf d e → Since t c d s → Since t c d mid
since_step t c d None s mid few same not since = record {
  sent = omega (arith, same.sent, since.sent);
  last = omega (arith, same.last c, since.last);
  other = omega (arith, same.last d, since.other);
}
since_step t c d (Some g) s mid few sends not since =
    let le : t ≤ s.sent = omega (arith, since.sent) in
    let after = later_count t s.sent few le in
    record {
      sent = subst (λ (n : ℕ). t < n) (sym sends.sent) after;
      last = sent_since (is_same c g) t c g s mid refl few sends since.sent since.last;
      other = omega (arith, sends.there d not, since.other);
    }

since_all : (t : ℕ) (c d : Channel) (events : List (Option Channel)) (s s' : SchedulerState) → t < 2 ^ 64 - 1 → Passes d events s s' → Since t c d s → Since t c d s'
since_all t c d [] s s' few passes since = subst (Since t c d) (sym passes) since
since_all t c d (e ∷ events) s s' few passes since = since_all t c d events passes.0 s' few passes.1.1.1 (since_step t c d e s passes.0 few passes.1.0 passes.1.1.0 since)

turn_all : (s : SchedulerState) (c : Channel) (cs : List Channel) → is_turn_among s c cs ≡ true → AllByRecursion (λ d. is_no_later s c d ≡ true) cs
turn_all s c [] e = tt
turn_all s c (d ∷ cs) e = (first_of_both (is_no_later s c d) (is_turn_among s c cs) e, turn_all s c cs (second_of_both (is_no_later s c d) (is_turn_among s c cs) e))

not_waiting : (b : Bool) (mine other : ℕ) → (if b then nat_le mine other else true) ≡ true → other < mine → b ≡ false
not_waiting true mine other e lt = absurd (grind (arith, nat_tests))
not_waiting false mine other e lt = refl

pub each_sends_once_meanwhile : EachSendsOnceMeanwhile
each_sends_once_meanwhile c d events s s1 s2 s' counted not first passes again =
    let le : s.sent ≤ s.sent = omega arith in
    let now = later_count s.sent s.sent counted.few le in
    let begun : Since s.sent c d s1 = record {
      sent = subst (λ (n : ℕ). s.sent < n) (sym first.sent) now;
      last = subst (λ (n : ℕ). s.sent < n) (sym first.here) now;
      other = omega (arith, first.there d not, counted.last d);
    } in
    let since = since_all s.sent c d events s1 s2 counted.few passes begun in
    let turn : is_no_later s2 c d ≡ true = of_every (λ (x : Channel). is_no_later s2 c x ≡ true) (turn_all s2 c every_channel again.turn) d in
    let lt : (queue s2 d).last < (queue s2 c).last = omega (arith, since.last, since.other) in
    not_waiting (waits_for_bytes s2 d) (queue s2 c).last (queue s2 d).last turn lt

-- a wait queue that is changed, and any other
queue_here : (s : SchedulerState) (g : Channel) (q : QueueState) → length s.queues ≡ channel_count → queue (with_queue s g q) g ≡ q
queue_here s g q places =
    let lt : number_of g < length s.queues = omega (arith, number_below g) in
    get_or-set_same s.queues (number_of g) q empty_queue lt

queue_there : (s : SchedulerState) (c g : Channel) (q : QueueState) → is_same c g ≡ false → queue (with_queue s g q) c ≡ queue s c
queue_there s c g q e =
    let ne : number_of c ≢ number_of g = grind (arith, nat_tests) in
    get_or-set_other s.queues (number_of g) (number_of c) q empty_queue ne

last_same : (b : Bool) (s : SchedulerState) (c d : Channel) (q : QueueState) → is_same d c ≡ b → q.last ≡ (queue s c).last → length s.queues ≡ channel_count → (queue (with_queue s c q) d).last ≡ (queue s d).last
last_same true s c d q e is places =
    let number : number_of d ≡ number_of c = grind (arith, nat_tests) in
    subst (λ (x : Channel). (queue (with_queue s c q) x).last ≡ (queue s x).last) (sym (same_from_number d c number)) (ap (λ (x : QueueState). x.last) (queue_here s c q places) ∙ is)
last_same false s c d q e is places = ap (λ (x : QueueState). x.last) (queue_there s d c q e)

sends_on : (s : SchedulerState) (c : Channel) (body : List ℕ) → length s.queues ≡ channel_count → is_turn s c ≡ true → SendsOn c s (send s c body)
sends_on s c body places turn =
    let q : QueueState = record (queue s c) { last = count_after s.sent } in
    record {
      turn = turn;
      sent = refl;
      here = ap (λ (x : QueueState). x.last) (queue_here s c q places);
      there = λ d e. ap (λ (x : QueueState). x.last) (queue_there s d c q e);
    }

proceeds_on : (s : SchedulerState) (c : Channel) (body : List ℕ) → length s.queues ≡ channel_count → is_turn s c ≡ true → SendsOn c s (proceed s c body)
proceeds_on s c body places turn =
    let mid = with_queue s c (without_first (queue s c)) in
    let mid_places : length mid.queues ≡ channel_count = simp length-set places in
    let q : QueueState = record (queue mid c) { last = count_after s.sent } in
    record {
      turn = turn;
      sent = refl;
      here = ap (λ (x : QueueState). x.last) (queue_here mid c q mid_places);
      there = λ d e. ap (λ (x : QueueState). x.last) (queue_there mid d c q e ∙ queue_there s d c (without_first (queue s c)) e);
    }

-- a grant takes the turn that a message would
grants_on : (s : SchedulerState) (c : Channel) (len : ℕ) → length s.queues ≡ channel_count → is_turn s c ≡ true → SendsOn c s (grant s c len)
grants_on s c len places turn = let sends = sends_on s c [] places turn in record { turn = turn; sent = refl; here = sends.here; there = sends.there }

proceeds_by_grant_on : (s : SchedulerState) (c : Channel) (len : ℕ) → length s.queues ≡ channel_count → is_turn s c ≡ true → SendsOn c s (proceed_by_grant s c len)
proceeds_by_grant_on s c len places turn = let sends = proceeds_on s c [] places turn in record { turn = turn; sent = refl; here = sends.here; there = sends.there }

pub each_call_is_counted : EachCallIsCounted
each_call_is_counted s places = record {
  sends = λ c body turn. sends_on s c body places turn;
  proceeds = λ c body turn. proceeds_on s c body places turn;
  grants = λ c len turn. grants_on s c len places turn;
  proceeds_by_grant = λ c len turn. proceeds_by_grant_on s c len places turn;
  reserved = λ c len body. record { sent = refl; last = λ d. refl };
  released = λ c len. record { sent = refl; last = λ d. refl };
  bounds = λ c bound. record { sent = refl; last = λ d. last_same (is_same d c) s c d (without_first (queue s c)) refl refl places };
  queues = λ c q is. record { sent = refl; last = λ d. last_same (is_same d c) s c d q refl is places };
  peers = λ p begun. record { sent = refl; last = λ d. refl };
}

pub are_counted : (s : SchedulerState) → length s.queues ≡ channel_count → AllByRecursion (SentBy s.sent) s.queues → s.sent < 2 ^ 64 - 1 → AreCounted s
are_counted s places stamps few = record {
  last = λ c. let lt : number_of c < length s.queues = omega (arith, number_below c) in sent_at s.sent s.queues (number_of c) empty_queue lt stamps;
  few = few;
}
