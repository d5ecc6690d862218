-- What a pass knows, and how each step changes it. It serves `src/rule.rt`.
use Rattle.std.specs.Prelude.{◌≡◌, ℕ, ◌+◌, List, [], ◌∷◌, ◌++◌}
use Rattle.std.specs.List.{All}
use Rattle.lc_frame.specs.declared.version.Version.TheVariants.{One}
use Rattle.lc_frame.specs.declared.frame.Frame.{Frame}
use Rattle.lc_frame.specs.Frame.{IsValid}
use Rattle.lc_frame.specs.Stream.{of_lane}
use Rattle.lc_queue.specs.declared.rule.JoinedLane.{JoinedLane}
use Rattle.lc_queue.specs.declared.rule.Terms.{Terms}
use Rattle.lc_queue.specs.declared.rule.View.{View}
use Rattle.lc_queue.specs.declared.rule.View.TheVariants.{Lane, Drain}
use Rattle.lc_queue.specs.Parts.{IsBegun}

-- what the passes of a new queue know of it
abbrev pub no_terms : Terms
no_terms = record { slots = 0; version = One }

-- what a view knows of its queue
abbrev pub terms_of : View → Terms
terms_of (Lane terms lane put) = terms
terms_of (Drain terms next popped joined) = terms
terms_of v = no_terms

-- the lane of the end that has this view, 0 where none has
abbrev pub lane_of_view : View → ℕ
lane_of_view (Lane terms lane put) = lane
lane_of_view v = 0

-- what was put at the end that has this view
abbrev pub put_of : View → List Frame
put_of (Lane terms lane put) = put
put_of v = []

-- the first lane that has no end yet, in the drain's view
abbrev pub next_of : View → ℕ
next_of (Drain terms next popped joined) = next
next_of v = 0

-- what was popped, in the drain's view
abbrev pub popped_of : View → List Frame
popped_of (Drain terms next popped joined) = popped
popped_of v = []

-- the lanes that ended, in the drain's view
abbrev pub joined_of : View → List JoinedLane
joined_of (Drain terms next popped joined) = joined
joined_of v = []

-- what the only pass of a new queue knows
abbrev pub new_view : View
new_view = Drain no_terms 0 [] []

-- what the drain knows when the pass of lane 0 was cut from that of a new queue, which is told its terms
abbrev pub first_drain_cut : Terms → View → View
first_drain_cut terms v = Drain terms 1 [] []

-- what the pass of lane 0 knows then
abbrev pub first_lane_cut : Terms → View → View
first_lane_cut terms v = Lane terms 0 []

-- what the drain knows when the pass of the next lane was cut from its own
abbrev pub drain_cut : View → View
drain_cut v = Drain (terms_of v) (next_of v + 1) (popped_of v) (joined_of v)

-- what the pass of that lane knows then
abbrev pub lane_cut : View → View
lane_cut v = Lane (terms_of v) (next_of v) []

-- the drain takes over what a lane's end knew
abbrev pub drain_joined : View → View → View
drain_joined v w = Drain (terms_of v) (next_of v) (popped_of v) (record { lane = lane_of_view w; put = put_of w } ∷ joined_of v)

-- a push that succeeds
abbrev pub Puts : View → Frame → View → Type 0
Puts v frame w = w ≡ Lane (terms_of v) (lane_of_view v) (put_of v ++ frame ∷ [])

-- a push that finds the queue full learns nothing of it: others put and pop what is queued
abbrev pub FindsFull : View → List Frame → Type 0
FindsFull v queued = Unit {0}

-- a pop that takes
abbrev pub Takes : View → Frame → View → Type 0
Takes v frame w =
    (w ≡ Drain (terms_of v) (next_of v) (popped_of v ++ frame ∷ []) (joined_of v)) × IsValid (terms_of v).version frame × All (IsBegun (terms_of v).slots (popped_of v ++ frame ∷ [])) (joined_of v)

-- a pop that finds the queue empty
abbrev pub FindsEmpty : View → List Frame → Type 0
FindsEmpty v queued = All (λ l. of_lane l.lane (popped_of v ++ queued) ≡ l.put) (joined_of v)
