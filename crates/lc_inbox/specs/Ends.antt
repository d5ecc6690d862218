-- An inbox with the end of the lane that its server puts on, and what each call on them answers and leaves. That a server judges what arrives by what it issued is LCMUX's; that it puts on a lane of a bounded queue is this project's own.
use Rattle.std.specs.Prelude.{◌≡◌, ◌⊎◌, ◌+◌, ◌∷◌, [], ◌++◌, length, Option, Some, None}
use Rattle.lc_frame.specs.declared.channel.Channel.{Channel}
use Rattle.lc_frame.specs.declared.frame.Frame.{Frame}
use Rattle.lc_frame.specs.declared.frame.Frame.TheVariants.{Send, Issue, Absolve, Plead, LimitSending, LimitReceiving, Finish}
use Rattle.lc_frame.specs.Channel.{channel_count, number_of}
use Rattle.lc_frame.specs.Stream.{issued, receive_left}
use Rattle.lc_book.specs.declared.fault.Refusal.{Refusal}
use Rattle.lc_book.specs.declared.fault.Refusal.TheVariants.{QueueFull}
use Rattle.lc_book.specs.declared.fault.Violation.{Violation}
use Rattle.lc_book.specs.Server.{Server, issue_refusal, plead_refusal, limit_receiving_refusal, message_violation, absolve_violation, send_limit_violation, finish_violation}
use Rattle.lc_book.specs.Sums.{server_after_arrival, server_after_put}
use Rattle.lc_peer.specs.Inbox.{InboxState, new_inbox}
use Rattle.lc_peer.specs.Arrivals.{ring_after_arrival}
use Rattle.lc_queue.specs.Parts.{End}

-- the channel, its inbox, and the end of the lane on which its server puts
pub record Held : Type 0 where
  pub channel : Channel
  pub inbox : InboxState
  pub lane : End

-- nothing has arrived, and nothing was put
pub record IsNewHeld (h : Held) : Type 0 where
  pub inbox : h.inbox ≡ new_inbox h.inbox.book.capacity
  pub put : h.lane.put ≡ []

-- what every such end keeps: the lane is the channel's, what was issued is the sum of the Issue amounts that were put there, and what is left of the limit on receiving is that of what was put
pub record IsHeld (h : Held) : Type 0 where
  pub lane : h.lane.lane ≡ channel_count + number_of h.channel
  pub issued : h.inbox.book.issued ≡ issued h.channel h.lane.put
  pub left : h.inbox.book.receive_left ≡ receive_left h.channel h.lane.put

-- why a frame of the client may not arrive, by the server's book
abbrev pub violation_of : Frame → Server → Option Violation
violation_of (Send c body) book = message_violation book (length body)
violation_of (Absolve c amount) book = absolve_violation book amount
violation_of (LimitSending c bound) book = send_limit_violation book bound
violation_of (Finish c) book = finish_violation book
violation_of f book = None

-- what a frame of the client that arrives leaves
abbrev pub arrive : Frame → Held → Held
arrive f h = record h { inbox = record { book = server_after_arrival f h.inbox.book; ring = ring_after_arrival f h.inbox.ring } }

-- why a server may not put a frame, by its book
abbrev pub refusal_of : Frame → Server → Option Refusal
refusal_of (Issue c amount) book = issue_refusal book amount
refusal_of (Plead c target) book = plead_refusal book target
refusal_of (LimitReceiving c bound) book = limit_receiving_refusal book bound
refusal_of f book = None

-- what a frame that the server put leaves: the book goes on, and it is the last on the lane
abbrev pub put : Frame → Held → Held
put f h = record h { inbox = record h.inbox { book = server_after_put f h.inbox.book }; lane = record h.lane { put = h.lane.put ++ f ∷ [] } }

-- the book allowed the frame, and it was put
pub record IsPut (f : Frame) (old new : Held) : Type 0 where
  pub allowed : refusal_of f old.inbox.book ≡ None
  pub after : new ≡ put f old

-- why a frame was not put: the book has a refusal; or it has none, and the queue gave the frame back
abbrev pub IsReason : Refusal → Frame → Held → Type 0
IsReason e f h = (refusal_of f h.inbox.book ≡ Some e) ⊎ ((refusal_of f h.inbox.book ≡ None) × (e ≡ QueueFull))

-- it was not put, for this reason, and nothing changed
pub record IsNotPut (e : Refusal) (f : Frame) (old new : Held) : Type 0 where
  pub reason : IsReason e f old
  pub after : new ≡ old
