-- A peer as the sums of two streams, the one that it writes and the one that arrives at it, and the laws of a peer. That balances are those of the frames on the streams is what LCMUX means by guarantees issued, used and absolved.
use Rattle.std.specs.Prelude.{◌≡◌, ℕ, ◌+◌, ◌≤◌, ◌<◌, if◌then◌else◌, List, [], ◌∷◌, ◌++◌, length, take, drop, slice_index, Option, Some, None}
use Rattle.std.specs.List.{AllByRecursion}
use Rattle.lc_frame.specs.declared.channel.Channel.{Channel}
use Rattle.lc_frame.specs.declared.frame.Frame.{Frame}
use Rattle.lc_frame.specs.Channel.{channel_count, is_same, number_of}
use Rattle.lc_frame.specs.declared.version.Version.{Version}
use Rattle.lc_frame.specs.declared.version.Version.TheVariants.{Two}
use Rattle.lc_frame.specs.Frame.{channel_of, IsValid}
use Rattle.lc_frame.specs.Stream.{messages}
use Rattle.lc_book.specs.declared.fault.Violation.{Violation}
use Rattle.lc_book.specs.Server.{outstanding, buffered}
use Rattle.lc_book.specs.Sums.{client_of, server_of, taken_cost, asked_after}
use Rattle.lc_ring.specs.Ring.{bytes}
use Rattle.lc_peer.specs.declared.channel_state.ChannelState.{ChannelState}
use Rattle.lc_peer.specs.declared.config.Config.{Config}
use Rattle.lc_peer.specs.Peer.{PeerState, channel, inbox, server, IsChannel}
use Rattle.lc_peer.specs.Calls.{put, due, absolvings, put_honour, take_on, without_next}
use Rattle.lc_peer.specs.Arrivals.{violation_at, arrive, Arrival, arrivals}
use Rattle.lc_peer.specs.Config.{new_peer}

-- a channel is that of two streams: its books are the sums over them, and its ring has the messages that arrived without those taken, which are so many; this plead is kept unless its client finished
pub record IsChannelOf (version : Version) (capacity : ℕ) (c : Channel) (put arrived : List Frame) (taken : ℕ) (asked : Option ℕ) (s : ChannelState) : Type 0 where
  pub client : s.client ≡ client_of version c put arrived asked
  pub server : s.inbox.book ≡ server_of capacity c put arrived (taken_cost c arrived taken)
  pub waiting : s.inbox.ring.messages ≡ drop taken (messages c arrived)
  pub room : s.inbox.ring.capacity ≡ capacity
  pub of_arrived : taken ≤ length (messages c arrived)

-- the end of a list
abbrev pub IsEndOf : List Frame → List Frame → Type 0
IsEndOf frames end = (before : List Frame) × (frames ≡ before ++ end)

-- what was done with two streams: the version of the one that the peer writes, the frames that the peer put, those that arrived at it, and of each channel the capacity of its ring, how many messages were taken, and the plead that is kept unless its client finished
pub record Streams : Type 0 where
  pub version : Version
  pub put : List Frame
  pub arrived : List Frame
  pub capacity : Channel → ℕ
  pub taken : Channel → ℕ
  pub asked : Channel → Option ℕ

-- a peer is that of two streams: it writes the version of the one, each of its channels is that of both, and the frames that wait are the last that it put
pub record IsPeerOf (streams : Streams) (p : PeerState) : Type 0 where
  pub version : p.version ≡ streams.version
  pub places : length p.channels ≡ channel_count
  pub channels : (c : Channel) → IsChannelOf streams.version (streams.capacity c) c streams.put streams.arrived (streams.taken c) (streams.asked c) (channel p c)
  pub waiting : IsEndOf streams.put p.waiting

-- one channel has another number, every other the one it had
abbrev pub at : {X : Type 0} → Channel → X → (Channel → X) → Channel → X
at c x f d = if is_same d c then x else f d

-- the streams of a new peer
abbrev pub new_streams : Config → Streams
new_streams config = record { version = config.version; put = []; arrived = []; capacity = λ c. slice_index config.capacities (number_of c); taken = λ c. 0; asked = λ c. None }

-- these one step further: the peer put a frame
abbrev pub then_put : Frame → Streams → Streams
then_put f s = record s { put = s.put ++ f ∷ [] }

-- the same where a frame arrived
abbrev pub then_arrives : Frame → Streams → Streams
then_arrives f s = record s { arrived = s.arrived ++ f ∷ []; asked = at (channel_of f) (asked_after f (s.asked (channel_of f))) s.asked }

-- the same where it honoured a plead, and absolved this amount, if any
abbrev pub then_honours : Channel → Option ℕ → Streams → Streams
then_honours c amount s = record s { put = s.put ++ absolvings c amount; asked = at c None s.asked }

-- the same where it took a message
abbrev pub then_takes : Channel → Streams → Streams
then_takes c s = record s { taken = at c (s.taken c + 1) s.taken }

-- each call keeps the sums, with its stream or its count one step further
pub record CallKeepsStreams (s : Streams) (p : PeerState) : Type 0 where
  -- an own call that is accepted
  pub puts : (f : Frame) → IsPeerOf (then_put f s) (put p f)
  pub honours : (c : Channel) → IsPeerOf (then_honours c (due p c) s) (put_honour p c)
  -- a frame that is lawful arrives
  pub arrives : (f : Frame) → IsPeerOf (then_arrives f s) (arrive p f)
  -- a message is taken; a take where none waits
  pub takes : (c : Channel) → 0 < length (inbox p c).ring.messages → IsPeerOf (then_takes c s) (take_on p c)
  pub takes_none : (c : Channel) → (inbox p c).ring.messages ≡ [] → IsPeerOf s (take_on p c)
  -- a frame goes out
  pub goes_out : IsPeerOf s (without_next p)

-- a new peer is that of two empty streams
abbrev pub NewPeersAreOfStreams : Type 0
NewPeersAreOfStreams = (config : Config) → length config.capacities ≡ channel_count → IsPeerOf (new_streams config) (new_peer config)

-- each call, arrival, take and frame that goes out keeps a peer one of two streams
abbrev pub CallsKeepStreams : Type 0
CallsKeepStreams = (s : Streams) (p : PeerState) → IsPeerOf s p → CallKeepsStreams s p

-- whatever frames arrive, a channel keeps what it kept: its buffered bytes are those of its ring, and they and what is outstanding fit it
pub record StaysBounded (capacity : ℕ) (s : ChannelState) : Type 0 where
  pub kept : IsChannel s
  pub bytes : bytes s.inbox.ring ≡ buffered s.inbox.book
  pub fits : buffered s.inbox.book + outstanding s.inbox.book ≤ capacity

-- whatever valid frames arrive at a peer, a channel keeps what it kept, and what is buffered and outstanding fits its ring
abbrev pub ArrivalsStayBounded : Type 0
ArrivalsStayBounded = (p : PeerState) (frames : List Frame) (c : Channel) → IsChannel (channel p c) → AllByRecursion (IsValid Two) frames → StaysBounded (server p c).capacity (channel (arrivals p frames).peer c)

-- what came of some frames, counted after so many that arrived before them
abbrev pub behind : ℕ → Arrival → Arrival
behind n later = record later { count = n + later.count }

-- frames arrive in one go as they do in two, unless one of the first violates
abbrev pub ArrivalsGoOn : Type 0
ArrivalsGoOn = (p : PeerState) (first later : List Frame) → (arrivals p first).violation ≡ None → arrivals p (first ++ later) ≡ behind (length first) (arrivals (arrivals p first).peer later)

-- it stopped at a frame: as many as were counted stand before it, and what they left is violated by it
pub record StopsAt (frames : List Frame) (came : Arrival) (v : Violation) : Type 0 where
  pub frame : Frame
  pub later : List Frame
  pub is : frames ≡ take came.count frames ++ frame ∷ later
  pub violates : violation_at came.peer frame ≡ Some v

-- frames arrive up to the first that violates: all of them where none does
pub record StopsAtTheFirst (frames : List Frame) (came : Arrival) : Type 0 where
  pub all : came.violation ≡ None → came.count ≡ length frames
  pub stops : (v : Violation) → came.violation ≡ Some v → StopsAt frames came v

-- every list of frames arrives up to the first that violates, by the books that those before it left
abbrev pub ArrivalsStopAtTheFirst : Type 0
ArrivalsStopAtTheFirst = (p : PeerState) (frames : List Frame) → StopsAtTheFirst frames (arrivals p frames)
