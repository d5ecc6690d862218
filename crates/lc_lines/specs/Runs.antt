-- What calls that proceed do to the peer: they are calls of its own that it accepts.
use Rattle.std.specs.Prelude.{◌≡◌, List, [], ◌∷◌, length, None}
use Rattle.lc_frame.specs.Channel.{channel_count}
use Rattle.lc_frame.specs.declared.frame.Frame.{Frame}
use Rattle.lc_peer.specs.Peer.{PeerState}
use Rattle.lc_peer.specs.Calls.{refusal, put}
use Rattle.lc_lines.specs.declared.scheduler.Notice.{Notice}
use Rattle.lc_lines.specs.Scheduler.{SchedulerState, KeepsSlots}
use Rattle.lc_lines.specs.Lines.{Ran}

-- these frames are put by calls that the peer accepts, one after another
abbrev pub Accepts : List Frame → PeerState → PeerState → Type 0
Accepts [] p p' = p' ≡ p
Accepts (f ∷ frames) p p' = (refusal p f ≡ None) × Accepts frames (put p f) p'

-- whatever steps were taken, the peer is one that accepted calls of its own led to
abbrev pub RunsAreCalls : Type 0
RunsAreCalls = (ran : List Notice) (s s' : SchedulerState) → KeepsSlots s.peer s.asides → length s.asides ≡ channel_count → Ran ran s s' → (frames : List Frame) × Accepts frames s.peer s'.peer
