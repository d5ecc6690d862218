-- In which order a channel sends its messages and bounds them: that of its calls.
use Rattle.std.specs.Prelude.{◌≡◌, ◌⊎◌, if◌then◌else◌, Bool, false, List, [], ◌∷◌, ◌++◌, length, map, ℕ}
use Rattle.lc_frame.specs.declared.channel.Channel.{Channel}
use Rattle.lc_frame.specs.declared.frame.Frame.{Frame}
use Rattle.lc_frame.specs.declared.frame.Frame.TheVariants.{Send, LimitSending, Finish}
use Rattle.lc_frame.specs.Channel.{channel_count, is_same}
use Rattle.lc_lines.specs.declared.queue.Bound.{Bound}
use Rattle.lc_lines.specs.declared.queue.Call.{Call}
use Rattle.lc_lines.specs.declared.queue.Ask.{Ask}
use Rattle.lc_lines.specs.declared.queue.Ask.TheVariants.{Message, Offer, Permit, End}
use Rattle.lc_lines.specs.declared.scheduler.Notice.{Notice}
use Rattle.lc_lines.specs.declared.scheduler.Outcome.{Outcome}
use Rattle.lc_lines.specs.declared.scheduler.Outcome.TheVariants.{Completed}
use Rattle.lc_lines.specs.Bounds.{frame_of_bound}
use Rattle.lc_lines.specs.Scheduler.{SchedulerState, queue}
use Rattle.lc_lines.specs.Lines.{Ran}

-- the ticket of a call among others, where it was completed
abbrev pub with_ticket : Outcome → ℕ → List ℕ → List ℕ
with_ticket Completed ticket tickets = ticket ∷ tickets
with_ticket outcome ticket tickets = tickets

-- the tickets of the calls of one channel that were completed, among notices
abbrev pub tickets_on : Channel → List Notice → List ℕ
tickets_on c [] = []
tickets_on c (n ∷ notices) = if is_same c n.channel then with_ticket n.outcome n.ticket (tickets_on c notices) else tickets_on c notices

-- whether a channel sends by a frame, or bounds what it sends
abbrev pub is_sending : Channel → Frame → Bool
is_sending c (Send d body) = is_same c d
is_sending c (LimitSending d bound) = is_same c d
is_sending c (Finish d) = is_same c d
is_sending c f = false

-- the messages of a channel and the bounds on what it sends, among frames, in order
abbrev pub sending : Channel → List Frame → List Frame
sending c [] = []
sending c (f ∷ frames) = if is_sending c f then f ∷ sending c frames else sending c frames

-- the frame that a call puts when it is completed, if it does, before others
abbrev pub with_frame : Channel → Ask → List Frame → List Frame
with_frame c (Message body) frames = Send c body ∷ frames
with_frame c (Offer len) frames = frames
with_frame c (Permit len) frames = frames
with_frame c (End bound) frames = frame_of_bound c bound ∷ frames

-- the frames that calls of a channel put when they are completed: the messages that they left, and their bounds
abbrev pub put_by : Channel → List Call → List Frame
put_by c [] = []
put_by c (call ∷ calls) = with_frame c call.ask (put_by c calls)

-- of one channel, these calls were completed: they were the first of its wait queue, in this order, and what was behind them waits there still; the messages that they left and their bounds are queued behind all that were, in the same order, once each, and nothing else that the channel sends is; and their tickets are noticed
pub record ProceedInOrder (ran : List Notice) (c : Channel) (s s' : SchedulerState) : Type 0 where
  pub sent : List Call
  pub tickets : map (λ call. call.ticket) sent ≡ tickets_on c ran
  pub first : (queue s c).calls ≡ sent ++ (queue s' c).calls
  pub stream : sending c s'.peer.waiting ≡ sending c s.peer.waiting ++ put_by c sent

-- so it is for each channel, whatever steps were taken
abbrev pub CallsProceedInOrder : Type 0
CallsProceedInOrder = (ran : List Notice) (c : Channel) (s s' : SchedulerState) → length s.queues ≡ channel_count → Ran ran s s' → ProceedInOrder ran c s s'

-- the messages of a channel and its bounds that are queued, and then those of its waiting calls, in the order of the calls
abbrev pub accepted : SchedulerState → Channel → List Frame
accepted s c = sending c s.peer.waiting ++ put_by c (queue s c).calls

-- steps change nothing of that
abbrev pub ProceedingKeepsOrder : Type 0
ProceedingKeepsOrder = (ran : List Notice) (c : Channel) (s s' : SchedulerState) → length s.queues ≡ channel_count → Ran ran s s' → accepted s' c ≡ accepted s c

-- a call that waited between these is not reached: some of those before it were completed, and nothing of it or of those behind it is queued
pub record StillWaits (c : Channel) (before : List Call) (call : Call) (behind : List Call) (s s' : SchedulerState) : Type 0 where
  pub sent : List Call
  pub left : List Call
  pub before_is : before ≡ sent ++ left
  pub waiting : (queue s' c).calls ≡ left ++ call ∷ behind
  pub stream : sending c s'.peer.waiting ≡ sending c s.peer.waiting ++ put_by c sent

-- a call to bound that waited between these was completed: all that was before it is queued, then its bound, and then some of what was behind it
pub record IsBoundNow (c : Channel) (before : List Call) (bound : Bound) (behind : List Call) (s s' : SchedulerState) : Type 0 where
  pub sent : List Call
  pub left : List Call
  pub behind_is : behind ≡ sent ++ left
  pub waiting : (queue s' c).calls ≡ left
  pub stream : sending c s'.peer.waiting ≡ sending c s.peer.waiting ++ (put_by c before ++ frame_of_bound c bound ∷ put_by c sent)

-- whatever steps were taken, a bound passes no message of a call before it, and none of a call behind it passes the bound
abbrev pub BoundsKeepTheirPlaces : Type 0
BoundsKeepTheirPlaces = (ran : List Notice) (c : Channel) (s s' : SchedulerState) (before behind : List Call) (call : Call) (bound : Bound) → length s.queues ≡ channel_count → Ran ran s s' → (queue s c).calls ≡ before ++ call ∷ behind → call.ask ≡ End bound → StillWaits c before call behind s s' ⊎ IsBoundNow c before bound behind s s'
