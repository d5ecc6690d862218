-- What the end of a session does to its queue, for src/report.rt.
use Rattle.std.specs.Prelude.{◌≡◌, ℕ, ◌+◌, List, [], ◌∷◌, ◌++◌, length}
use Rattle.lc_frame.specs.declared.frame.Frame.{Frame}
use Rattle.lc_queue.specs.declared.rule.JoinedLane.{JoinedLane}
use Rattle.lc_queue.specs.Parts.{End, Outlet, AllPopped, lane_of_end}
use Rattle.lc_outbox.specs.Outbox.{OutboxState}

-- the end of the lane on which an outbox puts
abbrev pub lane_of_outbox : OutboxState → End
lane_of_outbox o = o.lane

-- the lanes that were joined, the last one first
abbrev pub joined_with : List End → List JoinedLane → List JoinedLane
joined_with [] joined = joined
joined_with (lane ∷ lanes) joined = joined_with lanes (lane_of_end lane ∷ joined)

-- these lanes ended, one after another
abbrev pub Joins : Outlet → List End → Outlet → Type 0
Joins old lanes new = new ≡ record old { joined = joined_with lanes old.joined }

-- frames were popped, counted from a start on, and no more is queued of the lanes that ended
pub record PopsAll (start count : ℕ) (old new : Outlet) : Type 0 where
  pub last : List Frame
  pub count_is : count ≡ start + length last
  pub popped : new ≡ record old { popped = old.popped ++ last }
  pub all : AllPopped new
