-- One side of a session as a value: the state of each channel in both directions, and the frames that wait to go out. Channels that run in both directions are LCMUX's; the list of frames and its bound are this project's own.
use Rattle.std.specs.Prelude.{ℕ, ◌≤◌, List, length, slice_index_or, slice_set}
use Rattle.std.specs.List.{AllByRecursion}
use Rattle.lc_frame.specs.Bounds.{IsSlots}
use Rattle.lc_frame.specs.declared.channel.Channel.{Channel}
use Rattle.lc_frame.specs.declared.frame.Frame.{Frame}
use Rattle.lc_frame.specs.Channel.{number_of}
use Rattle.lc_frame.specs.declared.version.Version.{Version}
use Rattle.lc_frame.specs.Frame.{IsValid}
use Rattle.lc_book.specs.Client.{Client, IsClient, new_client}
use Rattle.lc_book.specs.Server.{Server}
use Rattle.lc_peer.specs.declared.channel_state.ChannelState.{ChannelState}
use Rattle.lc_peer.specs.Inbox.{InboxState, IsInbox, new_inbox}

-- the version of the stream that the peer writes, the channels by their numbers, the frames that wait to go out, the first first, how many there may be, and the bytes of each channel's receiving ring, which never change
pub record PeerState : Type 0 where
  pub version : Version
  pub channels : List ChannelState
  pub waiting : List Frame
  pub slots : ℕ
  pub capacities : List ℕ

-- a channel on which nothing has happened
abbrev pub new_channel : Version → ℕ → ChannelState
new_channel version capacity = record { client = new_client version; inbox = new_inbox capacity }

-- the state of a channel, by its number. Every peer has a place for each channel; past the last one a channel without a ring would be read
abbrev pub channel : PeerState → Channel → ChannelState
channel p c = slice_index_or p.channels (number_of c) (new_channel p.version 0)

-- the book of a channel's client
abbrev pub client : PeerState → Channel → Client
client p c = (channel p c).client

-- the inbox of a channel
abbrev pub inbox : PeerState → Channel → InboxState
inbox p c = (channel p c).inbox

-- the book of a channel's server
abbrev pub server : PeerState → Channel → Server
server p c = (inbox p c).book

-- one channel is in another state, every other as it was
abbrev pub set_channel : PeerState → Channel → ChannelState → PeerState
set_channel p c s = record p { channels = slice_set p.channels (number_of c) s }

-- what every channel of a peer keeps: its client's book and its inbox keep what they keep alone
pub record IsChannel (s : ChannelState) : Type 0 where
  pub client : IsClient s.client
  pub inbox : IsInbox s.inbox

-- what the waiting frames of every peer keep: there are at most as many as may wait, and each is valid in the peer's version
pub record AreWaiting (version : Version) (slots : ℕ) (frames : List Frame) : Type 0 where
  pub bound : IsSlots slots
  pub fit : length frames ≤ slots
  pub each : AllByRecursion (IsValid version) frames
