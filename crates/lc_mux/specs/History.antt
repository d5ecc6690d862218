-- The law of the outbound stream: over any run of calls the bytes that were written are the first of those of the frames that the peer put, in their order, behind the greeting. That a message is on the stream once, whole, as it was sent, follows from it.
use Rattle.std.specs.Prelude.{◌≡◌, ℕ, List, [], ◌++◌, length}
use Rattle.std.specs.List.{flat_map}
use Rattle.lc_frame.specs.declared.channel.Channel.{Channel}
use Rattle.lc_frame.specs.declared.frame.Frame.{Frame}
use Rattle.lc_frame.specs.Version.{greeting}
use Rattle.lc_frame.specs.Encoding.{encoding}
use Rattle.lc_frame.specs.Channel.{channel_count}
use Rattle.lc_peer.specs.declared.config.Config.{Config}
use Rattle.lc_peer.specs.declared.delivery.Delivery.{Delivery}
use Rattle.lc_peer.specs.Calls.{take_on}
use Rattle.lc_peer.specs.Streams.{Streams, IsPeerOf, new_streams}
use Rattle.lc_lines.specs.declared.scheduler.Notice.{Notice}
use Rattle.lc_lines.specs.Scheduler.{SchedulerState}
use Rattle.lc_owed.specs.Owed.{OwedState}
use Rattle.lc_mux.specs.Mux.{MuxState, text, new_mux}
use Rattle.lc_mux.specs.Flushing.{Changes, Owes, DeliversAndFlushes, NoticesAndPuts}
use Rattle.lc_mux.specs.Ends.{close}
use Rattle.lc_mux.specs.Writing.{Entry, enter_all, Gives}

-- what was done with a session: the bytes that its writes gave, and the two streams of its peer
pub record History : Type 0 where
  pub given : List ℕ
  pub streams : Streams

-- the bytes of the outbound stream: the greeting, and then those of the frames that the peer put, in their order
abbrev pub outbound : Streams → List ℕ
outbound s = greeting s.version ++ flat_map (encoding s.version) s.put

-- a session is that of a history: its peer is that of the two streams, and the bytes that were written and those that are to be written are all of the outbound stream
pub record IsMuxOf (h : History) (m : MuxState) : Type 0 where
  pub peer : IsPeerOf h.streams m.lines.scheduler.peer
  pub bytes : h.given ++ text m ≡ outbound h.streams

-- one list begins another
abbrev pub IsFrontOf : List ℕ → List ℕ → Type 0
IsFrontOf front whole = (rest : List ℕ) × (whole ≡ front ++ rest)

-- one history goes on as another: by bytes that were written, frames that were put, and frames that arrived
pub record GoesOn (written : List ℕ) (h h' : History) : Type 0 where
  pub given : h'.given ≡ h.given ++ written
  pub version : h'.streams.version ≡ h.streams.version
  pub put : (later : List Frame) × (h'.streams.put ≡ h.streams.put ++ later)
  pub arrived : (later : List Frame) × (h'.streams.arrived ≡ h.streams.arrived ++ later)

-- a call gave these bytes, and left a session whose history goes on by them
abbrev pub Continues : List ℕ → MuxState → MuxState → Type 0
Continues written m m' = (h : History) → IsMuxOf h m → (h' : History) × (GoesOn written h h' × IsMuxOf h' m')

-- a write continues so, whatever calls proceed meanwhile
abbrev pub WritesContinue : Type 0
WritesContinue = (m m' : MuxState) (written : List ℕ) → Gives m.closing written m.owed m.lines m.pending m'.owed m'.lines m'.pending → Continues written m m'

-- a call that puts frames, if any, lets calls proceed, and flushes what is pending, continues so, and writes nothing
abbrev pub CallsContinue : Type 0
CallsContinue = (m m' : MuxState) (s : SchedulerState) (entered : List Entry) → s.peer ≡ enter_all entered m.lines.scheduler.peer → Changes s m m' → m'.pending ≡ m.pending → Continues [] m m'

-- so does a control call, which flushes what is pending
abbrev pub ControlsContinue : Type 0
ControlsContinue = (m m' : MuxState) (o : OwedState) → Owes o m m' → m'.pending ≡ m.pending → Continues [] m m'

-- so does a delivery, by which frames arrive
abbrev pub DeliveriesContinue : Type 0
DeliveriesContinue = (m m' : MuxState) (piece : List ℕ) (d : Delivery) → DeliversAndFlushes piece d m m' → m'.pending ≡ m.pending → Continues [] m m'

-- so does a take
abbrev pub TakesContinue : Type 0
TakesContinue = (m m' : MuxState) (c : Channel) → Changes (record m.lines.scheduler { peer = take_on m.lines.scheduler.peer c }) m m' → m'.pending ≡ m.pending → Continues [] m m'

-- so does a notice that is taken
abbrev pub NoticesContinue : Type 0
NoticesContinue = (m m' : MuxState) (notice : Notice) → NoticesAndPuts notice m m' → m'.pending ≡ m.pending → Continues [] m m'

-- so does the close of a session
abbrev pub ClosesContinue : Type 0
ClosesContinue = (m : MuxState) → Continues [] m (close m)

-- what continues on and on continues
abbrev pub ContinuesOn : Type 0
ContinuesOn = (a b c : MuxState) (x y : List ℕ) → Continues x a b → Continues y b c → Continues (x ++ y) a c

-- what was written of a stream is the first of it
abbrev pub WrittenIsFirst : Type 0
WrittenIsFirst = (h : History) (m : MuxState) → IsMuxOf h m → IsFrontOf h.given (outbound h.streams)

-- a new session is that of a history in which nothing was done
abbrev pub NewContinues : Type 0
NewContinues = (config : Config) → length config.capacities ≡ channel_count → IsMuxOf (record { given = []; streams = new_streams config }) (new_mux config)
