-- What contracts see of the pump that reads, and what each frame that arrives does there. That a server's book judges what arrives and that guarantees are counted as they arrive is LCMUX's; that each frame goes to its channel's shared inbox or credit is this project's own.
use Rattle.std.specs.Prelude.{◌≡◌, ℕ, List, map, slice_get, IsSomeAnd}
use Rattle.lc_history.specs.Places.{ChangesAt}
use Rattle.lc_frame.specs.declared.channel.Channel.{Channel}
use Rattle.lc_frame.specs.declared.frame.Frame.{Frame}
use Rattle.lc_frame.specs.declared.frame.Frame.TheVariants.{Issue, Plead, LimitReceiving}
use Rattle.lc_frame.specs.Channel.{number_of}
use Rattle.lc_frame.specs.Frame.{channel_of}
use Rattle.lc_frame.specs.Stream.{of_lane, issued, pleads, receive_left}
use Rattle.lc_book.specs.declared.fault.Violation.{Violation}
use Rattle.lc_book.specs.declared.fault.Violation.TheVariants.{ReceiveLimitRaised}
use Rattle.lc_credit.specs.History.{targets_asked}
use Rattle.lc_credit.specs.Sides.{Incoming, IsAdded, IsNotAdded, IsLimited, IsPastLimit, IsAsked}
use Rattle.lc_credit.specs.Channels.{SameCredits}
use Rattle.lc_inbox.specs.History.{heard}
use Rattle.lc_inbox.specs.Sides.{InboxSide, IsSameSide, HadOneTurn, IsHeard, IsViolated}
use Rattle.lc_inbox.specs.Inboxes.{AreSameSides}
use Rattle.lc_peer.specs.Intake.{IntakeState}
use Rattle.lc_session.specs.Channels.{channels}

-- the reading side of each channel's credit and of each channel's inbox, by the channel's number
pub record ReadingSide : Type 0 where
  pub credits : List Incoming
  pub inboxes : List InboxSide

-- the reading pump: its side of the credits and inboxes, and what it holds of its stream
pub record Reading : Type 0 where
  pub side : ReadingSide
  pub intake : IntakeState

-- the channel of an inbox
abbrev pub channel_of_side : InboxSide → Channel
channel_of_side side = side.key.channel

-- the bytes of the ring of an inbox
abbrev pub ring_of_side : InboxSide → ℕ
ring_of_side side = side.key.capacity

-- the bytes of the channels' rings, by the channels' numbers
abbrev pub rings_of : ReadingSide → List ℕ
rings_of r = map ring_of_side r.inboxes

-- what every reading side keeps: the inboxes are those of the channels, in order
abbrev pub IsReadingSide : ReadingSide → Type 0
IsReadingSide r = map channel_of_side r.inboxes ≡ channels

-- an inbox heard a frame, in one turn
pub record Hears (f : Frame) (old new : InboxSide) : Type 0 where
  pub heard : IsHeard f old new
  pub turn : HadOneTurn old new
  pub same : IsSameSide old new

-- an inbox refused a frame, in one turn
pub record Refuses (v : Violation) (f : Frame) (old new : InboxSide) : Type 0 where
  pub violated : IsViolated v f old new
  pub turn : HadOneTurn old new
  pub same : IsSameSide old new

-- something comes to the credit of a channel, and to nothing else
abbrev pub ToCredit : Channel → (Incoming → Incoming → Type 0) → ReadingSide → ReadingSide → Type 0
ToCredit c Changes old new = ChangesAt (number_of c) Changes old.credits new.credits × (new.inboxes ≡ old.inboxes)

-- something comes to the inbox of a channel, and to nothing else
abbrev pub ToInbox : Channel → (InboxSide → InboxSide → Type 0) → ReadingSide → ReadingSide → Type 0
ToInbox c Changes old new = ChangesAt (number_of c) Changes old.inboxes new.inboxes × (new.credits ≡ old.credits)

-- a frame arrives: a server's at the credit of its channel, a client's at its inbox
abbrev pub Arrives : ReadingSide → Frame → ReadingSide → Type 0
Arrives old (Issue c amount) new = ToCredit c (IsAdded amount) old new
Arrives old (Plead c target) new = ToCredit c (IsAsked target) old new
Arrives old (LimitReceiving c bound) new = ToCredit c (IsLimited bound) old new
Arrives old f new = ToInbox (channel_of f) (Hears f) old new

-- a frame violates the rules, by the credit or by the inbox
abbrev pub Violates : Violation → ReadingSide → Frame → ReadingSide → Type 0
Violates v old (Issue c amount) new = ToCredit c (IsNotAdded v amount) old new
Violates v old (Plead c target) new = ⊥
Violates v old (LimitReceiving c bound) new = (v ≡ ReceiveLimitRaised) × ToCredit c (IsPastLimit bound) old new
Violates v old f new = ToInbox (channel_of f) (Refuses v f) old new

-- it is still the reading side of the same credits and inboxes
pub record IsSameReading (old new : ReadingSide) : Type 0 where
  pub credits : SameCredits old.credits new.credits
  pub inboxes : AreSameSides old.inboxes new.inboxes

-- these frames arrived, all in all, on a channel: its inbox heard those of the client's lane; what its credit received, what is left of the limit on that, and the targets asked are those of the server's frames
pub record HasHeard (c : Channel) (r : ReadingSide) (arrived : List Frame) : Type 0 where
  pub inbox : IsSomeAnd (slice_get r.inboxes (number_of c)) (λ s. heard s.seen ≡ of_lane (number_of c) arrived)
  pub received : IsSomeAnd (slice_get r.credits (number_of c)) (λ i. i.received ≡ issued c arrived)
  pub left : IsSomeAnd (slice_get r.credits (number_of c)) (λ i. i.left ≡ receive_left c arrived)
  pub asked : IsSomeAnd (slice_get r.credits (number_of c)) (λ i. targets_asked i.seen ≡ pleads c arrived)

-- these frames arrived, all in all, on all channels
abbrev pub HasHeardAll : ReadingSide → List Frame → Type 0
HasHeardAll r arrived = (c : Channel) → HasHeard c r arrived
