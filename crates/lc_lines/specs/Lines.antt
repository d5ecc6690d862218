-- A scheduler whose steps are taken at once, and the notices of the calls that proceeded.
use Rattle.std.specs.Prelude.{◌≡◌, ℕ, ◌<◌, ◌≤◌, ◌⊎◌, List, [], ◌∷◌, ◌++◌, length}
use Rattle.lc_frame.specs.Stored.{Stored}
use Rattle.lc_peer.specs.declared.delivery.Delivery.{Delivery}
use Rattle.lc_peer.specs.Deliveries.{Delivers}
use Rattle.lc_peer.specs.Peer.{PeerState}
use Rattle.lc_peer.specs.declared.config.Config.{Config}
use Rattle.lc_lines.specs.declared.scheduler.Notice.{Notice}
use Rattle.lc_lines.specs.Scheduler.{SchedulerState, new_scheduler, IsSettled, Steps, GivesUp}

-- the scheduler, the notices that were not taken, and how many of them there may be
pub record LinesState : Type 0 where
  pub scheduler : SchedulerState
  pub notices : List Notice
  pub entries : ℕ

-- how many notices there may be
abbrev pub notice_entries : ℕ
notice_entries = 64

-- a new scheduler, and no notice
abbrev pub new_lines : Config → LinesState
new_lines config = record { scheduler = new_scheduler config; notices = []; entries = notice_entries }

-- the same with another scheduler
abbrev pub with_scheduler : LinesState → SchedulerState → LinesState
with_scheduler l s = record l { scheduler = s }

-- there is an entry for a notice; and where one is free, no call waits that can proceed
pub record AreLinesFields (scheduler : SchedulerState) (notices : List Notice) (entries : ℕ) : Type 0 where
  pub some : 1 ≤ entries
  pub settled : length notices < entries → IsSettled scheduler

-- these steps are taken one after another, and nothing else happens
abbrev pub Ran : List Notice → SchedulerState → SchedulerState → Type 0
Ran [] s s' = s' ≡ s
Ran (notice ∷ later) s s' = (mid : SchedulerState) × (Steps notice s mid × Ran later mid s')

-- steps were taken one after another, and noticed in that order
pub record Runs (s : SchedulerState) (notices : List Notice) (s' : SchedulerState) (notices' : List Notice) : Type 0 where
  pub ran : List Notice
  pub steps : Ran ran s s'
  pub noticed : notices' ≡ notices ++ ran

-- each call that could proceed was completed or notified, as far as entries for notices were free
pub record Settles (l l' : LinesState) : Type 0 where
  pub runs : Runs l.scheduler l.notices l'.scheduler l'.notices
  pub same_entries : l'.entries ≡ l.entries

-- bytes arrive at the peer, as a delivery has it, and then calls proceed
pub record DeliversAndSettles (l : LinesState) (held : Stored) (piece : List ℕ) (l' : LinesState) (held' : Stored) (d : Delivery) : Type 0 where
  -- what the delivery left
  pub peer : PeerState
  pub delivers : Delivers l.scheduler.peer held piece peer held' d
  pub settles : Settles (with_scheduler l (record l.scheduler { peer = peer })) l'

-- the first notice is taken, and then calls proceed
pub record TakesNotice (notice : Notice) (l l' : LinesState) : Type 0 where
  pub later : List Notice
  pub first : l.notices ≡ notice ∷ later
  pub settles : Settles (record l { notices = later }) l'

-- no notice lies there, a call that will never proceed is given up, and then calls proceed
pub record NoticesHopeless (notice : Notice) (l l' : LinesState) : Type 0 where
  -- what giving it up left
  pub scheduler : SchedulerState
  pub none : l.notices ≡ []
  pub gives_up : GivesUp notice l.scheduler scheduler
  pub settles : Settles (with_scheduler l scheduler) l'

-- a notice is taken: the first that lies there, or that of a call which is given up
abbrev pub NoticesNext : Notice → LinesState → LinesState → Type 0
NoticesNext notice l l' = TakesNotice notice l l' ⊎ NoticesHopeless notice l l'
