-- What contracts see of the parts of a queue: which queue each is of, and what it has done. That the channels of both directions are lanes of one queue is this project's own.
use Rattle.std.specs.Prelude.{◌≡◌, ℕ, ◌<◌, List, [], ◌∷◌, ◌++◌, length, map}
use Rattle.std.specs.List.{All}
use Rattle.atomic_table.specs.Seated.{TableId}
use Rattle.lc_frame.specs.declared.version.Version.{Version}
use Rattle.lc_frame.specs.declared.frame.Frame.{Frame}
use Rattle.lc_frame.specs.Stream.{of_lane}
use Rattle.lc_queue.specs.declared.rule.JoinedLane.{JoinedLane}

-- which queue a part is of
abbrev pub QueueId : Type 0
QueueId = TableId

-- how many frames the queue has room for: one of each lane, and as many more as there are shared places
abbrev pub places_of : QueueId → ℕ
places_of queue = queue.slots

-- the end of a lane: its queue, the version of the stream that the frames go out on, the lane's number, and what was put there, in order
pub record End : Type 0 where
  pub queue : QueueId
  pub version : Version
  pub lane : ℕ
  pub put : List Frame

-- the drain: its queue, the version, what it popped, in order, and the lanes whose ends were joined to it, the last one first
pub record Outlet : Type 0 where
  pub queue : QueueId
  pub version : Version
  pub popped : List Frame
  pub joined : List JoinedLane

-- both are of one queue
abbrev pub IsSame : QueueId → QueueId → Type 0
IsSame a b = a ≡ b

-- it is still the end of the same lane of the same queue, in the same version: by this promise a thread gives an end back
abbrev pub IsSameEnd : End → End → Type 0
IsSameEnd old new = IsSame new.queue old.queue × (new.lane ≡ old.lane) × (new.version ≡ old.version)

-- the end of a lane at which nothing was put
abbrev pub new_end : QueueId → Version → ℕ → End
new_end queue version lane = record { queue = queue; version = version; lane = lane; put = [] }

-- a drain that popped nothing
abbrev pub new_outlet : QueueId → Version → Outlet
new_outlet queue version = record { queue = queue; version = version; popped = []; joined = [] }

-- the ends of all lanes, in the order of their numbers
abbrev pub new_ends : QueueId → Version → List End
new_ends queue version = map (new_end queue version) (0 ∷ 1 ∷ 2 ∷ 3 ∷ 4 ∷ 5 ∷ 6 ∷ 7 ∷ 8 ∷ 9 ∷ 10 ∷ 11 ∷ 12 ∷ 13 ∷ [])

-- the lane that an end leaves behind when it is joined
abbrev pub lane_of_end : End → JoinedLane
lane_of_end end = record { lane = end.lane; put = end.put }

-- what was popped of a lane that was joined is the beginning of what was put there; the rest is still queued, and is fewer frames than there are places
abbrev pub IsBegun : ℕ → List Frame → JoinedLane → Type 0
IsBegun places popped l = (rest : List Frame) × (of_lane l.lane popped ++ rest ≡ l.put) × (length rest < places)

-- of every lane that was joined, what was popped is the beginning of what was put there
abbrev pub AreBegun : Outlet → Type 0
AreBegun drain = All (IsBegun (places_of drain.queue) drain.popped) drain.joined

-- of the lanes that were joined, all that was put is popped; of lanes that go on this says nothing
abbrev pub AllPopped : Outlet → Type 0
AllPopped drain = All (λ l. of_lane l.lane drain.popped ≡ l.put) drain.joined
