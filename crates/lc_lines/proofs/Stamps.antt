-- Each channel sent last when so many messages had been sent, or before.
use Rattle.std.proofs.Common.{◌≡◌, ℕ, zero, suc, ◌^◌, ◌<◌, ◌≤◌, List, [], ◌∷◌, length, get_or, set, arith}
use Rattle.std.specs.List.{AllByRecursion}
use Rattle.lc_lines.specs.Queue.{QueueState}
use Rattle.lc_lines.specs.Scheduler.{count_after, SentBy}

later : (t u : ℕ) (queues : List QueueState) → t ≤ u → AllByRecursion (SentBy t) queues → AllByRecursion (SentBy u) queues
later t u [] le h = tt
later t u (q ∷ queues) le h = let here : q.last ≤ t = h.0 in (omega arith, later t u queues le h.1)

pub sent_set : (u : ℕ) (queues : List QueueState) (i : ℕ) (q : QueueState) → q.last ≤ u → AllByRecursion (SentBy u) queues → AllByRecursion (SentBy u) (set queues i q)
sent_set u [] i q le h = tt
sent_set u (x ∷ queues) zero q le h = (le, h.1)
sent_set u (x ∷ queues) (suc i) q le h = (h.0, sent_set u queues i q le h.1)

-- a channel that sends now sends last
pub sent_now : (t n : ℕ) (queues : List QueueState) (i : ℕ) (q : QueueState) → t < 2 ^ 64 → n ≡ count_after t → q.last ≡ n → AllByRecursion (SentBy t) queues → AllByRecursion (SentBy n) (set queues i q)
sent_now t n queues i q fits is e h =
    let le : t ≤ n = omega arith in
    let here : q.last ≤ n = omega arith in
    sent_set n queues i q here (later t n queues le h)

pub sent_at : (t : ℕ) (queues : List QueueState) (i : ℕ) (d : QueueState) → i < length queues → AllByRecursion (SentBy t) queues → (get_or queues i d).last ≤ t
sent_at t [] i d lt h = absurd (omega arith)
sent_at t (q ∷ queues) zero d lt h = h.0
sent_at t (q ∷ queues) (suc i) d lt h = sent_at t queues i d (omega arith) h.1
