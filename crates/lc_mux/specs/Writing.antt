-- What a write gives, and what it leaves. That a stream may be cut at any byte is this project's own to say.
use Rattle.std.specs.Prelude.{◌≡◌, ◌⊎◌, Bool, true, false, ℕ, zero, suc, List, [], ◌∷◌, ◌++◌}
use Rattle.std.specs.List.{flat_map}
use Rattle.lc_frame.specs.declared.channel.Channel.{Channel}
use Rattle.lc_frame.specs.declared.frame.Frame.{Frame}
use Rattle.lc_frame.specs.Encoding.{encoding}
use Rattle.lc_peer.specs.Peer.{PeerState}
use Rattle.lc_peer.specs.Calls.{put, put_honour, absolvings, due}
use Rattle.lc_lines.specs.Scheduler.{take_frame, write}
use Rattle.lc_lines.specs.Closing.{close}
use Rattle.lc_lines.specs.Lines.{LinesState, Settles, with_scheduler}
use Rattle.lc_owed.specs.Owed.{OwedState}
use Rattle.lc_mux.specs.Mux.{text_of}
use Rattle.lc_mux.specs.Flushing.{FlushesUnless, SettlesAndPuts}

-- an own call of a peer: it puts a frame, or honours the plead of a channel
pub data Entry : Type 0 where
  puts : Frame → Entry
  honours : Channel → Entry

-- a peer after such a call
abbrev pub enter : Entry → PeerState → PeerState
enter (puts f) p = put p f
enter (honours c) p = put_honour p c

-- the frames that it puts: an honour puts the absolving of what it absolves, if anything
abbrev pub frames_by : Entry → PeerState → List Frame
frames_by (puts f) p = f ∷ []
frames_by (honours c) p = absolvings c (due p c)

-- a peer after such calls, one after another
abbrev pub enter_all : List Entry → PeerState → PeerState
enter_all [] p = p
enter_all (e ∷ later) p = enter_all later (enter e p)

-- the frames that they put
abbrev pub frames_of : List Entry → PeerState → List Frame
frames_of [] p = []
frames_of (e ∷ later) p = frames_by e p ++ frames_of later (enter e p)

-- the first frame leaves the outbound queue, and then calls proceed and what is due is put; or where the session closes, more channels are finished after that
abbrev pub TakesFrame : Bool → OwedState → LinesState → OwedState → LinesState → Type 0
TakesFrame false o l o' l' = SettlesAndPuts false o (with_scheduler l (take_frame l.scheduler)) o' l'
TakesFrame true o l o' l' = (o' ≡ o) × ((between : LinesState) × (Settles (with_scheduler l (take_frame l.scheduler)) between × (l' ≡ with_scheduler between (close between.scheduler))))

-- of the message that left the outbound queue last at most so many bytes are unwritten, and then calls proceed and what is due is put
abbrev pub Writes : Bool → OwedState → LinesState → OwedState → LinesState → Type 0
Writes closing o l o' l' = (left : ℕ) × SettlesAndPuts closing o (with_scheduler l (write l.scheduler left)) o' l'

-- the policies make their calls and what is due is put, a frame leaves the outbound queue, or more of the message that left it last is written
abbrev pub Moves : Bool → OwedState → LinesState → OwedState → LinesState → Type 0
Moves closing o l o' l' = FlushesUnless closing o l o' l' ⊎ (TakesFrame closing o l o' l' ⊎ Writes closing o l o' l')

-- so many such moves, one after another, and nothing else
abbrev pub MovesBy : Bool → ℕ → OwedState → LinesState → OwedState → LinesState → Type 0
MovesBy closing zero o l o' l' = (o' ≡ o) × (l' ≡ l)
MovesBy closing (suc n) o l o' l' = (mid : OwedState) × ((between : LinesState) × (Moves closing o l mid between × MovesBy closing n mid between o' l'))

-- these bytes were written, while the session closes or not: they and those that are to be written still are those that were to be written before, and behind them those of the frames that entered the outbound queue meanwhile
pub record Gives (closing : Bool) (written : List ℕ) (o : OwedState) (l : LinesState) (pending : List ℕ) (o' : OwedState) (l' : LinesState) (pending' : List ℕ) : Type 0 where
  -- the calls of the peer by which frames entered the outbound queue, and the frames that left it
  pub entered : List Entry
  pub gone : List Frame
  pub bytes : written ++ text_of l' pending' ≡ text_of l pending ++ flat_map (encoding l.scheduler.peer.version) (frames_of entered l.scheduler.peer)
  pub queue : l.scheduler.peer.waiting ++ frames_of entered l.scheduler.peer ≡ gone ++ l'.scheduler.peer.waiting
  pub peer : l'.scheduler.peer ≡ record (enter_all entered l.scheduler.peer) { waiting = l'.scheduler.peer.waiting }
  pub count : ℕ
  pub moves : MovesBy closing count o l o' l'
