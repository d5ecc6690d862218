-- One end of a world as it is kept, the lines that two of them stand for, and what they keep. A device of the proofs: a world is seen as the lines alone.
use Rattle.std.specs.Prelude.{◌≡◌, ℕ, ◌+◌, ◌-◌, ◌<◌, ◌≤◌, List, [], length, map, take, drop, All, Option, Some}
use Rattle.std.specs.List.{AllByRecursion}
use Rattle.lc_frame.specs.Stored.{Stored, opened_as, opened}
use Rattle.lc_frame.specs.declared.version.Version.{Version}
use Rattle.lc_frame.specs.Version.{greeting}
use Rattle.lc_frame.specs.declared.channel.Channel.TheVariants.{Reconciliation}
use Rattle.lc_frame.specs.declared.frame.Frame.{Frame}
use Rattle.lc_frame.specs.Kind.{max_amount}
use Rattle.lc_frame.specs.Frame.{IsValid}
use Rattle.lc_frame.specs.Stream.{messages}
use Rattle.lc_peer.specs.Peer.{PeerState, client, inbox, server}
use Rattle.lc_peer.specs.Streams.{Streams, IsPeerOf}
use Rattle.lc_world.specs.declared.endpoint.Endpoint.{Endpoint}
use Rattle.lc_world.specs.declared.event.Act.{Act}
use Rattle.lc_world.specs.declared.event.Answer.{Answer}
use Rattle.lc_frame.specs.Splits.{frames_of, rest_of}
use Rattle.lc_frame.specs.Channel.{channel_count}
use Rattle.lc_world.specs.State.{Line, State, stream, taken_count, kept_plead, deliver_on, every_channel}
use Rattle.lc_world.specs.Answers.{IsAnswerOf, mine_after, theirs_after}
use Rattle.lc_world.specs.Sound.{IsSound}
use Rattle.lc_world.specs.Delivery.{text_of, delivered, IsInOrder}

-- by channel, how many of the messages that arrived do not wait in the ring of the peer that they came to
abbrev pub taken_by : PeerState → List Frame → List ℕ
taken_by reader arrived = map (λ c. length (messages c arrived) - length (inbox reader c).ring.messages) every_channel

-- by channel, the plead that the peer keeps
abbrev pub pleads_of : PeerState → List (Option ℕ)
pleads_of reader = map (λ c. (client reader c).asked) every_channel

-- the line of a stream of bytes of a version, of which so many were delivered to its reader
abbrev pub line_in : Version → List ℕ → ℕ → PeerState → Line
line_in v bytes count reader = record {
  version = v;
  greeting_left = length (greeting v) - count;
  arrived = frames_of (opened_as (Some v) (take count bytes));
  in_flight = drop (length (frames_of (opened_as (Some v) (take count bytes)))) (frames_of (opened_as (Some v) bytes));
  begun = length (rest_of (opened_as (Some v) (take count bytes))).bytes;
  taken = taken_by reader (frames_of (opened_as (Some v) (take count bytes)));
  asked = pleads_of reader;
}

-- the line of the stream that one end writes and the other reads
abbrev pub line_of : Endpoint → Endpoint → Line
line_of writer reader = line_in writer.peer.version writer.stream.items writer.delivered reader.peer

-- the capacity of an end's rings, which all have one
abbrev pub capacity_of : Endpoint → ℕ
capacity_of e = (server e.peer Reconciliation).capacity

-- the state of two peers that two ends stand for
abbrev pub state_between : Endpoint → Endpoint → State
state_between a b = record { capacity = capacity_of a; a = line_of a b; b = line_of b a }

-- two lines as the peer sees them that writes the first and reads the second
abbrev pub streams_of : ℕ → Line → Line → Streams
streams_of capacity mine theirs = record { version = mine.version; put = stream mine; arrived = theirs.arrived; capacity = λ c. capacity; taken = λ c. taken_count c theirs; asked = λ c. kept_plead c theirs }

-- the peer of two lines, with one slot, all of whose frames went out
pub record IsPeerBetween (capacity : ℕ) (mine theirs : Line) (p : PeerState) : Type 0 where
  pub sums : IsPeerOf (streams_of capacity mine theirs) p
  pub one_slot : p.slots ≡ 1
  pub none_waits : p.waiting ≡ []

-- what the reader of a line holds: of what was delivered the rest behind the frames
abbrev pub stored_of : Line → Stored
stored_of l = rest_of (opened (take (delivered l) (text_of l.version (stream l))))

-- the end of two lines: its peer is theirs, its stream is the text of the first, and its decoder holds what the reader of the second does
pub record IsEnd (capacity : ℕ) (mine theirs : Line) (e : Endpoint) : Type 0 where
  pub peer : IsPeerBetween capacity mine theirs e.peer
  pub bytes : e.stream.items ≡ text_of mine.version (stream mine)
  pub are_bytes : All (λ b. b < 256) e.stream.items
  pub count : e.delivered ≡ delivered mine
  pub held : e.decoder ≡ stored_of theirs

-- what every line keeps
pub record IsLine (l : Line) : Type 0 where
  pub valid : AllByRecursion (IsValid l.version) (stream l)
  pub order : IsInOrder l
  pub taken_places : length l.taken ≡ channel_count
  pub asked_places : length l.asked ≡ channel_count

-- two lines as a state, the first as that of side A
abbrev pub of_lines : ℕ → Line → Line → State
of_lines capacity mine theirs = record { capacity = capacity; a = mine; b = theirs }

-- two ends of the same two lines, of which the laws hold
pub record AreEnds (capacity : ℕ) (mine theirs : Line) (me peer : Endpoint) : Type 0 where
  pub small : capacity ≤ max_amount
  pub my_end : IsEnd capacity mine theirs me
  pub their_end : IsEnd capacity theirs mine peer
  pub my_line : IsLine mine
  pub their_line : IsLine theirs
  pub sound : IsSound (of_lines capacity mine theirs)

-- two ends of the lines that they stand for
pub record AreInStep (me peer : Endpoint) : Type 0 where
  pub ends : AreEnds (capacity_of me) (line_of me peer) (line_of peer me) me peer

-- what an event at the first of two ends leaves of both
pub record Acts (me peer me' peer' : Endpoint) (act : Act) (answer : Answer) : Type 0 where
  pub right : IsAnswerOf (capacity_of me) (line_of me peer) (line_of peer me) act answer
  pub ends : AreEnds (capacity_of me) (mine_after (line_of me peer) (line_of peer me) act answer) (theirs_after (line_of me peer) (line_of peer me) act answer) me' peer'

-- what a delivery of so many bytes at the first end leaves of both, and how many frames it brings
pub record Brings (me peer me' peer' : Endpoint) (count frames : ℕ) : Type 0 where
  pub frames_are : length (deliver_on count (line_of peer me)).arrived ≡ length (line_of peer me).arrived + frames
  pub ends : AreEnds (capacity_of me) (line_of me peer) (deliver_on count (line_of peer me)) me' peer'
