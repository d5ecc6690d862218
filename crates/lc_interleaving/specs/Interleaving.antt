-- One order of the steps of two sessions: the premise of every law of two of them. That a stream keeps its order and carries nothing that was not put is what LCMUX asks of the channel below it; that guarantees are used only once they were received is its rule for clients.
use Rattle.std.specs.Prelude.{◌≡◌, ℕ, ◌+◌, ◌-◌, ◌≤◌, List, [], ◌∷◌, ◌++◌, length, take, slice_index_or, Option, Some, None, IfSome}
use Rattle.std.specs.List.{fold, filter_map}
use Rattle.lc_history.specs.History.{IsHistory}
use Rattle.lc_frame.specs.declared.version.Version.{Version}
use Rattle.lc_frame.specs.declared.channel.Channel.{Channel}
use Rattle.lc_frame.specs.declared.frame.Frame.{Frame}
use Rattle.lc_frame.specs.Channel.{number_of}
use Rattle.lc_frame.specs.Frame.{channel_of}
use Rattle.lc_frame.specs.Stream.{of_lane, issued}
use Rattle.lc_credit.specs.declared.history.Entry.{Entry}
use Rattle.lc_credit.specs.declared.history.Entry.TheVariants.{Received, Used, Returned}
use Rattle.lc_outbox.specs.Uses.{amount_of, amounts}
use Rattle.lc_inbox.specs.declared.history.Entry as inbox
use Rattle.lc_interleaving.specs.Steps.{Step, put, heard, entries, without_refusals}
use Rattle.lc_interleaving.specs.Steps.Step.{puts, hears}

-- what a session did: the version of the stream that it wrote, the frames that its queue gave and those that arrived, and of each channel the history of its credit and of its inbox
pub record Trace : Type 0 where
  pub version : Version
  pub put : List Frame
  pub heard : List Frame
  pub credit : Channel → List Entry
  pub inbox : Channel → List inbox.Entry

-- how much was received, and how much had been before each use that did not come back
pub record Funds : Type 0 where
  pub received : ℕ
  pub before_uses : List ℕ

-- the same after one entry more
abbrev pub funds_after : Funds → Entry → Funds
funds_after s (Received n) = record s { received = s.received + n }
funds_after s (Used n) = record s { before_uses = s.before_uses ++ s.received ∷ [] }
funds_after s (Returned n) = record s { before_uses = take (length s.before_uses - 1) s.before_uses }
funds_after s e = s

-- what had been received before each use of a history that did not come back, in order
abbrev pub before_uses : List Entry → List ℕ
before_uses history = (fold funds_after (record { received = 0; before_uses = [] }) history).before_uses

-- what had been received before the use that pays the next frame of a channel's client was heard by then
abbrev pub IsFunded : Trace → List Step → Channel → Type 0
IsFunded t before c = slice_index_or (before_uses (t.credit c)) (length (amounts (of_lane (number_of c) (put before)))) 0 ≤ issued c (heard before)

-- a step is in time: a message or an absolving comes when what pays it was heard
abbrev pub IsInTime : Trace → List Step → Step → Type 0
IsInTime t before (puts f) = IfSome (amount_of f) (λ n. IsFunded t before (channel_of f))
IsInTime t before step = Unit {0}

-- an order of a session's steps: that of its queue, that of its reading pump, and that of each inbox; and no message and no absolving before what pays it was heard
pub record IsOrderOf (t : Trace) (steps : List Step) : Type 0 where
  pub put : put steps ≡ t.put
  pub heard : heard steps ≡ t.heard
  pub inboxes : (c : Channel) → entries c steps ≡ without_refusals (t.inbox c)
  pub in_time : IsHistory (IsInTime t) steps

-- a step of one of the two sides
pub data Joint : Type 0 where
  at_a : Step → Joint
  at_b : Step → Joint

-- the step, where it is the first side's
abbrev pub a_step : Joint → Option Step
a_step (at_a step) = Some step
a_step (at_b step) = None

-- the step, where it is the second side's
abbrev pub b_step : Joint → Option Step
b_step (at_a step) = None
b_step (at_b step) = Some step

-- the steps of the first side, in order
abbrev pub of_a : List Joint → List Step
of_a order = filter_map a_step order

-- the steps of the second side, in order
abbrev pub of_b : List Joint → List Step
of_b order = filter_map b_step order

-- of the frames that the other side put, this is the first that a side has not heard
abbrev pub IsNext : List Step → List Step → Frame → Type 0
IsNext there here f = (rest : List Frame) × (put there ≡ heard here ++ f ∷ rest)

-- where a step hears a frame, it is that one
abbrev pub HearsNext : List Step → List Step → Step → Type 0
HearsNext there here (hears f) = IsNext there here f
HearsNext there here step = Unit {0}

-- nothing is heard before it was put, and all is heard in the order in which it was put
abbrev pub IsCausal : List Joint → Joint → Type 0
IsCausal before (at_a step) = HearsNext (of_b before) (of_a before) step
IsCausal before (at_b step) = HearsNext (of_a before) (of_b before) step

-- the premise: one order of the steps of both sessions, which is an order of each one's own, and in which nothing is heard before it was put
pub record IsInterleaving (a b : Trace) (order : List Joint) : Type 0 where
  pub a_order : IsOrderOf a (of_a order)
  pub b_order : IsOrderOf b (of_b order)
  pub causal : IsHistory IsCausal order
