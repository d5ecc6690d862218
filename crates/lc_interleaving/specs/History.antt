-- The history of two peers that an order of two sides' steps is. That the steps are events of two peers is this project's own claim.
use Rattle.std.specs.Prelude.{List, map}
use Rattle.lc_frame.specs.declared.frame.Frame.{Frame}
use Rattle.lc_frame.specs.declared.frame.Frame.TheVariants as frame
use Rattle.lc_world.specs.declared.event.Side.TheVariants.{A, B}
use Rattle.lc_world.specs.declared.event.Act.{Act}
use Rattle.lc_world.specs.declared.event.Act.TheVariants.{Send, Issue, Plead, Absolve, LimitSending, LimitReceiving, Finish, Arrive, Take}
use Rattle.lc_world.specs.declared.event.Event.{Event}
use Rattle.lc_world.specs.declared.event.Answer.{Answer}
use Rattle.lc_world.specs.declared.event.Answer.TheVariants.{Accepted, Arrived, Took}
use Rattle.lc_world.specs.Histories.{History}
use Rattle.lc_interleaving.specs.Steps.{Step}
use Rattle.lc_interleaving.specs.Steps.Step.{puts, hears, takes}
use Rattle.lc_interleaving.specs.Interleaving.{Joint}
use Rattle.lc_interleaving.specs.Interleaving.Joint.{at_a, at_b}

-- the event that puts a frame: an honour that absolves is the absolving that it puts
abbrev pub act_putting : Frame → Act
act_putting (frame.Send c body) = Send c body
act_putting (frame.Issue c amount) = Issue c amount
act_putting (frame.Absolve c amount) = Absolve c amount
act_putting (frame.Plead c target) = Plead c target
act_putting (frame.LimitSending c bound) = LimitSending c bound
act_putting (frame.LimitReceiving c bound) = LimitReceiving c bound
act_putting (frame.Finish c) = Finish c

-- a step as an event
abbrev pub act_of : Step → Act
act_of (puts f) = act_putting f
act_of (hears f) = Arrive
act_of (takes c body) = Take c

-- the answer to the event that a step is: what is put is accepted, what is heard arrives
abbrev pub answer_to : Step → Answer
answer_to (puts f) = Accepted
answer_to (hears f) = Arrived
answer_to (takes c body) = Took body

-- a step of one of the two sides as an event with its answer
abbrev pub event_of : Joint → Event × Answer
event_of (at_a step) = (record { side = A; act = act_of step }, answer_to step)
event_of (at_b step) = (record { side = B; act = act_of step }, answer_to step)

-- the history of two peers that an order of steps is
abbrev pub history_of : List Joint → History
history_of order = map event_of order
