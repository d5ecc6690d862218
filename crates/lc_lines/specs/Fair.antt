-- Fairness between channels: while a first call waits for bytes alone, each other channel takes one turn at most. A turn is a message that is sent or a permit that is granted; a message that is sent by a permit takes none, and a bound takes none.
use Rattle.std.specs.Prelude.{◌≡◌, ◌-◌, ◌^◌, ◌<◌, ◌≤◌, ℕ, true, false, List, [], ◌∷◌, length, Option, Some, None}
use Rattle.lc_frame.specs.declared.channel.Channel.{Channel}
use Rattle.lc_frame.specs.Channel.{channel_count, is_same}
use Rattle.lc_peer.specs.Peer.{PeerState}
use Rattle.lc_lines.specs.declared.queue.Bound.{Bound}
use Rattle.lc_lines.specs.Queue.{QueueState}
use Rattle.lc_lines.specs.Scheduler.{SchedulerState, queue, is_turn, waits_for_bytes, count_after, with_queue, send, proceed, grant, proceed_by_grant, proceed_by_bound, release, send_reserved}

-- a channel sent a message or was granted a permit, where it was its turn: it sent last of all, and no other channel did
pub record SendsOn (c : Channel) (old new : SchedulerState) : Type 0 where
  pub turn : is_turn old c ≡ true
  pub sent : new.sent ≡ count_after old.sent
  pub here : (queue new c).last ≡ count_after old.sent
  pub there : (d : Channel) → is_same d c ≡ false → (queue new d).last ≡ (queue old d).last

-- no channel took a turn
pub record SendsNothing (old new : SchedulerState) : Type 0 where
  pub sent : new.sent ≡ old.sent
  pub last : (d : Channel) → (queue new d).last ≡ (queue old d).last

-- a channel took a turn, or none did
abbrev pub Happens : Option Channel → SchedulerState → SchedulerState → Type 0
Happens None s s' = SendsNothing s s'
Happens (Some c) s s' = SendsOn c s s'

-- it was not this channel that took a turn
abbrev pub IsNotOf : Channel → Option Channel → Type 0
IsNotOf d None = Unit {0}
IsNotOf d (Some c) = is_same d c ≡ false

-- all this happened, in order, and this channel took no turn
abbrev pub Passes : Channel → List (Option Channel) → SchedulerState → SchedulerState → Type 0
Passes d [] s s' = s' ≡ s
Passes d (e ∷ events) s s' = (mid : SchedulerState) × (Happens e s mid × (IsNotOf d e × Passes d events mid s'))

-- the turns are counted, and not to the end of the numbers
pub record AreCounted (s : SchedulerState) : Type 0 where
  pub last : (c : Channel) → (queue s c).last ≤ s.sent
  pub few : s.sent < 2 ^ 64 - 1

-- where a channel sends twice, and another one not between, the first call of that other one did not wait for bytes alone when the channel sent again
abbrev pub EachSendsOnceMeanwhile : Type 0
EachSendsOnceMeanwhile = (c d : Channel) (events : List (Option Channel)) (s s1 s2 s' : SchedulerState) →
    AreCounted s → is_same d c ≡ false → SendsOn c s s1 → Passes d events s1 s2 → SendsOn c s2 s' → waits_for_bytes s2 d ≡ false

-- what each call leaves is counted so: a message that is sent or a permit that is granted, at once or from its wait queue; and all else takes no turn, a message that is sent by a permit, a permit that is given back and a bound, too
pub record CallsAreCounted (s : SchedulerState) : Type 0 where
  pub sends : (c : Channel) (body : List ℕ) → is_turn s c ≡ true → SendsOn c s (send s c body)
  pub proceeds : (c : Channel) (body : List ℕ) → is_turn s c ≡ true → SendsOn c s (proceed s c body)
  pub grants : (c : Channel) (len : ℕ) → is_turn s c ≡ true → SendsOn c s (grant s c len)
  pub proceeds_by_grant : (c : Channel) (len : ℕ) → is_turn s c ≡ true → SendsOn c s (proceed_by_grant s c len)
  pub reserved : (c : Channel) (len : ℕ) (body : List ℕ) → SendsNothing s (send_reserved s c len body)
  pub released : (c : Channel) (len : ℕ) → SendsNothing s (release s c len)
  pub bounds : (c : Channel) (bound : Bound) → SendsNothing s (proceed_by_bound s c bound)
  pub queues : (c : Channel) (q : QueueState) → q.last ≡ (queue s c).last → SendsNothing s (with_queue s c q)
  pub peers : (p : PeerState) (begun : ℕ) → SendsNothing s (record s { peer = p; begun = begun })

-- so it is at every scheduler
abbrev pub EachCallIsCounted : Type 0
EachCallIsCounted = (s : SchedulerState) → length s.queues ≡ channel_count → CallsAreCounted s
