-- What the laws keep of two lines from one event to the next: of each channel direction the balances of its guarantees, and of each stream that every frame fits what is left of the limits before it. A device of the proofs, and what a world keeps: the laws say it of every history.
use Rattle.std.specs.Prelude.{◌≡◌, ℕ, ◌+◌, ◌<◌, ◌≤◌, false, List, [], ◌∷◌, ◌++◌, length, sum_by}
use Rattle.lc_frame.specs.declared.channel.Channel.{Channel}
use Rattle.lc_frame.specs.declared.frame.Frame.{Frame}
use Rattle.lc_frame.specs.declared.frame.Frame.TheVariants.{Send, Issue, Absolve, Plead, LimitSending, LimitReceiving, Finish}
use Rattle.lc_frame.specs.Channel.{number_of}
use Rattle.lc_frame.specs.Kind.{max_total}
use Rattle.lc_frame.specs.Stream.{messages, cost, issued, absolved, send_left, receive_left, finished}
use Rattle.lc_book.specs.Limit.{is_past}
use Rattle.lc_world.specs.declared.event.Side.{Side}
use Rattle.lc_world.specs.State.{State, Line, line, other, stream, taken_count, taken_messages}

-- no Finish of the channel is among the frames
abbrev pub IsOpen : Channel → List Frame → Type 0
IsOpen c before = finished c before ≡ false

-- a frame fits what is left after those before it, and one of the client's comes behind no Finish
abbrev pub FitsAfter : List Frame → Frame → Type 0
FitsAfter before (Send c body) = (is_past (send_left c before) (length body) ≡ false) × IsOpen c before
FitsAfter before (Issue c amount) = is_past (receive_left c before) amount ≡ false
FitsAfter before (LimitSending c bound) = (is_past (send_left c before) bound ≡ false) × IsOpen c before
FitsAfter before (LimitReceiving c bound) = is_past (receive_left c before) bound ≡ false
FitsAfter before (Absolve c amount) = IsOpen c before
FitsAfter before (Finish c) = IsOpen c before
FitsAfter before (Plead c target) = Unit {0}

-- each frame of a list does, the first list being before it
abbrev pub AllFit : List Frame → List Frame → Type 0
AllFit before [] = Unit {0}
AllFit before (f ∷ rest) = FitsAfter before f × AllFit (before ++ f ∷ []) rest

-- the first line is the client's: what it used is at most what came, and what the server issued is at most what fits its ring
pub record Sound (capacity : ℕ) (c : Channel) (mine theirs : Line) : Type 0 where
  pub solvent : cost c (stream mine) + absolved c (stream mine) ≤ issued c theirs.arrived
  pub roomy : issued c (stream theirs) ≤ capacity + sum_by length (taken_messages c mine) + absolved c mine.arrived
  pub total : issued c (stream theirs) ≤ max_total
  pub taken_of_arrived : taken_count c mine ≤ length (messages c mine.arrived)
  pub places : number_of c < length mine.taken

-- each channel direction of the state is sound, and each stream within its limits
pub record IsSound (w : State) : Type 0 where
  pub sums : (s : Side) (c : Channel) → Sound w.capacity c (line w s) (line w (other s))
  pub limits : (s : Side) → AllFit [] (stream (line w s))
