-- What a flush does: it puts what is due, one after another, until nothing is due or no slot is free.
use Rattle.std.specs.Prelude.{◌≡◌, ◌⊎◌, Bool, true, false, List, [], ◌∷◌, Option, Some, None}
use Rattle.lc_frame.specs.declared.channel.Channel.{Channel}
use Rattle.lc_book.specs.declared.fault.Refusal.{Refusal}
use Rattle.lc_book.specs.declared.fault.Refusal.TheVariants.{QueueFull}
use Rattle.lc_lines.specs.Outbound.{has_control_slot}
use Rattle.lc_lines.specs.Scheduler.{SchedulerState}
use Rattle.lc_lines.specs.Lines.{LinesState, with_scheduler, Settles}
use Rattle.lc_owed.specs.declared.pending.Pending.{Pending}
use Rattle.lc_owed.specs.declared.due.Due.{Due}
use Rattle.lc_owed.specs.Owed.{OwedState, pending_on, by_policies}
use Rattle.lc_owed.specs.Due.{is_held_up, due, channel_of_due, due_refusal, put_due, without_due}

-- what is due is put where nothing refuses it, and then calls proceed
pub record Enters (d : Due) (l l' : LinesState) : Type 0 where
  pub accepted : due_refusal l.scheduler d ≡ None
  pub settles : Settles (with_scheduler l (put_due l.scheduler d)) l'

-- whether a refusal is for want of a slot alone
abbrev pub wants_slot : Refusal → Bool
wants_slot QueueFull = true
wants_slot refusal = false

-- what is due is dropped, since its book refuses it by now: its channel is finished, its plead is met, or nothing is there to absolve
pub record IsDropped (d : Due) (l l' : LinesState) : Type 0 where
  pub refusal : Refusal
  pub refused : due_refusal l.scheduler d ≡ Some refusal
  pub by_book : wants_slot refusal ≡ false
  pub same : l' ≡ l

-- what is due is put, or dropped
abbrev pub Goes : Due → LinesState → LinesState → Type 0
Goes d l l' = Enters d l l' ⊎ IsDropped d l l'

-- these were due, each as the first when its turn came, and were put or dropped, and nothing else happened
abbrev pub Went : List Due → OwedState → LinesState → OwedState → LinesState → Type 0
Went [] o l o' l' = (o' ≡ o) × (l' ≡ l)
Went (d ∷ later) o l o' l' = (due o l.scheduler ≡ Some d) × ((mid : LinesState) × (Goes d l mid × Went later (without_due o d) mid o' l'))

-- the channel of what is due still is served first next time
abbrev pub serve_next : Option Due → OwedState → OwedState
serve_next None o = o
serve_next (Some d) o = record o { first = channel_of_due d }

-- what is due is put or dropped, one after another, and then the next flush is prepared
pub record PutsAll (o : OwedState) (l : LinesState) (o' : OwedState) (l' : LinesState) : Type 0 where
  pub went : List Due
  -- what is pending still
  pub rest : OwedState
  pub steps : Went went o l rest l'
  pub after : o' ≡ serve_next (due rest l'.scheduler) rest

-- the policies make the calls that are due by them, and then what is due is put or dropped
abbrev pub Flushes : OwedState → LinesState → OwedState → LinesState → Type 0
Flushes o l o' l' = PutsAll (by_policies o l.scheduler) l o' l'

-- nothing is pending on a channel, but for an honour that permits hold up
pub record IsPaid (p : Pending) (s : SchedulerState) (c : Channel) : Type 0 where
  pub issue : p.issue ≡ 0
  pub limit : p.limit ≡ None
  pub plead : p.plead ≡ None
  pub absolve : p.absolve ≡ 0
  pub honour : p.honour ≡ true → is_held_up s c ≡ true

-- nothing is pending, but for honours that permits hold up
abbrev pub AllPaid : OwedState → SchedulerState → Type 0
AllPaid o s = (c : Channel) → IsPaid (pending_on o c) s c

-- no slot is free for a control frame
abbrev pub IsFull : SchedulerState → Type 0
IsFull s = has_control_slot s.peer s.asides ≡ false

-- nothing is pending, but for honours that permits hold up, or no slot is free
abbrev pub IsFlushed : OwedState → SchedulerState → Type 0
IsFlushed o s = AllPaid o s ⊎ IsFull s
