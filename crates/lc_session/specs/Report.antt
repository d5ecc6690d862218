-- A session's parts and what they leave in the end. What guarantees add up to is LCMUX's; the report is this project's own.
use Rattle.std.specs.Prelude.{◌≡◌, ℕ, ◌+◌, List, ◌++◌, length, map}
use Rattle.std.specs.List.{All}
use Rattle.lc_frame.specs.declared.version.Version.{Version}
use Rattle.lc_frame.specs.declared.channel.Channel.{Channel}
use Rattle.lc_frame.specs.declared.frame.Frame.{Frame}
use Rattle.lc_frame.specs.Channel.{channel_count, number_of}
use Rattle.lc_frame.specs.Stream.{of_lane}
use Rattle.lc_book.specs.Server.{Server}
use Rattle.lc_queue.specs.Parts.{QueueId, End, IsSame}
use Rattle.lc_credit.specs.declared.balance.Balance.{Balance}
use Rattle.lc_credit.specs.Sides.{Outgoing}
use Rattle.lc_credit.specs.Channels as credits
use Rattle.lc_inbox.specs.Sides.{InboxSide}
use Rattle.lc_inbox.specs.Inboxes as inboxes
use Rattle.lc_outbox.specs.Outbox.{OutboxState, IsOutbox}
use Rattle.lc_session.specs.Channels.{channels}
use Rattle.lc_session.specs.Reading.{Reading, channel_of_side}
use Rattle.lc_session.specs.Pumping.{Pumping}

-- the parts of a session: the sending and the receiving ends, by channel, and both pumps
pub record SessionState : Type 0 where
  pub sending : List OutboxState
  pub receiving : List InboxSide
  pub reading : Reading
  pub writing : Pumping

-- the channel of an outbox
abbrev pub channel_of_outbox : OutboxState → Channel
channel_of_outbox o = o.channel

-- the credit of an outbox
abbrev pub credit_of_outbox : OutboxState → Outgoing
credit_of_outbox o = o.credit

-- the sending ends of a session's credits, by channel
abbrev pub outgoing_of : SessionState → List Outgoing
outgoing_of s = map credit_of_outbox s.sending

-- an outbox puts on this queue, in this version
pub record PutsOn (queue : QueueId) (version : Version) (o : OutboxState) : Type 0 where
  pub queue_is : IsSame queue o.lane.queue
  pub version_is : o.lane.version ≡ version

-- the server of an inbox puts on this queue, in this version, on the lane of its channel
pub record ServesOn (queue : QueueId) (version : Version) (side : InboxSide) : Type 0 where
  pub queue_is : IsSame queue side.key.lane.value.queue
  pub version_is : side.key.lane.value.version ≡ version
  pub lane_is : side.key.lane.value.lane ≡ channel_count + number_of side.key.channel

-- all parts are of one session: both kinds of ends are there for each channel, in order; they put on the queue that the writing pump drains, in its version, and share their credits and inboxes with the reading pump
pub record AreOfOneSession (s : SessionState) : Type 0 where
  pub senders : map channel_of_outbox s.sending ≡ channels
  pub receivers : map channel_of_side s.reading.side.inboxes ≡ channels
  pub clients_put : All (PutsOn s.writing.drain.queue s.writing.drain.version) s.sending
  pub servers_put : All (ServesOn s.writing.drain.queue s.writing.drain.version) s.reading.side.inboxes
  pub credits_match : credits.AreMatched s.reading.side.credits (outgoing_of s)
  pub inboxes_match : inboxes.AreMatched s.reading.side.inboxes s.receiving

-- the frames that the queue gave on the lane of an outbox are those that it put
abbrev pub GaveAll : List Frame → OutboxState → Type 0
GaveAll frames o = of_lane (number_of o.channel) frames ≡ o.lane.put

-- the frames that the queue gave on a lane are those that were put there
abbrev pub GaveAllOf : List Frame → End → Type 0
GaveAllOf frames lane = of_lane lane.lane frames ≡ lane.put

-- what a finished session leaves. There is one list of what its queue gave, those left at the end with them: on each lane it is what was put there. The balances are those of the credits and the books those of the inboxes, each as one history of both of its sides leaves it
pub record IsReport (s : SessionState) (clients : List Balance) (servers : List Server) (left partly : ℕ) : Type 0 where
  -- the frames left in the queue
  pub last : List Frame
  pub outboxes : All IsOutbox s.sending
  pub clients_gave : All (GaveAll (s.writing.drain.popped ++ last)) s.sending
  pub settled : credits.AreSettled s.reading.side.credits (outgoing_of s) clients
  pub lanes : List End
  pub finished : inboxes.AreFinished s.reading.side.inboxes s.receiving servers lanes
  pub servers_gave : All (GaveAllOf (s.writing.drain.popped ++ last)) lanes
  -- those that were popped and not begun count as left, and of the one that was begun, or of the greeting, which is no frame, the bytes
  pub left_is : left ≡ length s.writing.waiting + length last
  pub partly_is : partly ≡ length s.writing.begun
