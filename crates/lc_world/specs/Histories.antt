-- Histories: events with their answers from a new world, and what was accepted, issued and taken in one. A history is this project's own way to say what LCMUX's streams promise over time.
use Rattle.std.specs.Prelude.{ℕ, if◌then◌else◌, Bool, true, false, List, [], ◌∷◌, Option, Some, None}
use Rattle.std.specs.List.{filter_map}
use Rattle.lc_frame.specs.declared.channel.Channel.{Channel}
use Rattle.lc_frame.specs.Bounds.{IsCapacity}
use Rattle.lc_frame.specs.Channel.{is_same}
use Rattle.lc_world.specs.declared.event.Side.{Side}
use Rattle.lc_world.specs.declared.event.Side.TheVariants.{A, B}
use Rattle.lc_world.specs.declared.event.Act.{Act}
use Rattle.lc_world.specs.declared.event.Act.TheVariants.{Send, Issue, Plead, Absolve, Honour, LimitSending, LimitReceiving, Finish, Arrive, Deliver, Take}
use Rattle.lc_world.specs.declared.event.Event.{Event}
use Rattle.lc_world.specs.declared.event.Answer.{Answer}
use Rattle.lc_world.specs.declared.event.Answer.TheVariants.{Accepted, Absolved, NothingToAbsolve, Took}
use Rattle.lc_world.specs.State.{State, Versions, opening}
use Rattle.lc_world.specs.Answers.{IsAnswer, after}

-- events in order, each with its answer
abbrev pub History : Type 0
History = List (Event × Answer)

-- the state that a history leaves
abbrev pub after_all : State → History → State
after_all w [] = w
after_all w (p ∷ history) = after_all (after w p.0 p.1) history

-- each answer is right in the state that the events before it leave
abbrev pub IsLegal : State → History → Type 0
IsLegal w [] = Unit {0}
IsLegal w (p ∷ history) = IsAnswer w p.0 p.1 × IsLegal (after w p.0 p.1) history

-- a history of two new peers with rings of 1 to 2^24 bytes, whose streams are of these versions
pub record IsHistory (capacity : ℕ) (versions : Versions) (history : History) : Type 0 where
  pub is_capacity : IsCapacity capacity
  pub legal : IsLegal (opening capacity versions) history

-- whether two sides are one
abbrev pub is_side : Side → Side → Bool
is_side A A = true
is_side A B = false
is_side B A = false
is_side B B = true

-- the message that an act, so answered, has sent on the channel
abbrev pub sent_body : Channel → Act → Answer → Option (List ℕ)
sent_body c (Send d body) Accepted = if is_same c d then Some body else None
sent_body c (Send d body) answer = None
sent_body c (Issue d amount) answer = None
sent_body c (Plead d target) answer = None
sent_body c (Absolve d amount) answer = None
sent_body c (Honour d) answer = None
sent_body c (LimitSending d bound) answer = None
sent_body c (LimitReceiving d bound) answer = None
sent_body c (Finish d) answer = None
sent_body c Arrive answer = None
sent_body c (Deliver count) answer = None
sent_body c (Take d) answer = None

-- the amount that an act, so answered, has issued on the channel
abbrev pub issued_amount : Channel → Act → Answer → Option ℕ
issued_amount c (Issue d amount) Accepted = if is_same c d then Some amount else None
issued_amount c (Send d body) answer = None
issued_amount c (Issue d amount) answer = None
issued_amount c (Plead d target) answer = None
issued_amount c (Absolve d amount) answer = None
issued_amount c (Honour d) answer = None
issued_amount c (LimitSending d bound) answer = None
issued_amount c (LimitReceiving d bound) answer = None
issued_amount c (Finish d) answer = None
issued_amount c Arrive answer = None
issued_amount c (Deliver count) answer = None
issued_amount c (Take d) answer = None

-- the message that an act, so answered, took of the channel
abbrev pub taken_body : Channel → Act → Answer → Option (List ℕ)
taken_body c (Take d) (Took body) = if is_same c d then Some body else None
taken_body c (Send d body) answer = None
taken_body c (Issue d amount) answer = None
taken_body c (Plead d target) answer = None
taken_body c (Absolve d amount) answer = None
taken_body c (Honour d) answer = None
taken_body c (LimitSending d bound) answer = None
taken_body c (LimitReceiving d bound) answer = None
taken_body c (Finish d) answer = None
taken_body c Arrive answer = None
taken_body c (Deliver count) answer = None
taken_body c (Take d) answer = None

-- what an act, so answered, absolved as an honour on the channel, 0 where it had nothing to absolve
abbrev pub honoured_amount : Channel → Act → Answer → Option ℕ
honoured_amount c (Honour d) (Absolved amount) = if is_same c d then Some amount else None
honoured_amount c (Honour d) NothingToAbsolve = if is_same c d then Some 0 else None
honoured_amount c (Send d body) answer = None
honoured_amount c (Issue d amount) answer = None
honoured_amount c (Plead d target) answer = None
honoured_amount c (Absolve d amount) answer = None
honoured_amount c (Honour d) answer = None
honoured_amount c (LimitSending d bound) answer = None
honoured_amount c (LimitReceiving d bound) answer = None
honoured_amount c (Finish d) answer = None
honoured_amount c Arrive answer = None
honoured_amount c (Deliver count) answer = None
honoured_amount c (Take d) answer = None

-- what an event with its answer has of this, where it is one of the side
abbrev pub at_side : {X : Type 0} → (Act → Answer → Option X) → Side → (Event × Answer) → Option X
at_side of_act s p = if is_side s p.0.side then of_act p.0.act p.1 else None

-- the messages that a side had accepted on the channel in a history, in order
abbrev pub accepted : Channel → Side → History → List (List ℕ)
accepted c s history = filter_map (at_side (sent_body c) s) history

-- the amounts that a side issued on the channel, in order
abbrev pub amounts : Channel → Side → History → List ℕ
amounts c s history = filter_map (at_side (issued_amount c) s) history

-- the messages that a side took of the channel, in order
abbrev pub taken : Channel → Side → History → List (List ℕ)
taken c s history = filter_map (at_side (taken_body c) s) history

-- what each honour of a side on the channel absolved that was answered, in order
abbrev pub honours : Channel → Side → History → List ℕ
honours c s history = filter_map (at_side (honoured_amount c) s) history
