-- The outbound stream of a session continues, whatever is called.
use Rattle.std.proofs.Common.{◌≡◌, Bool, true, false, if◌then◌else◌, Option, None, Some, ◌<◌, length, arith, ℕ, List, [], ◌∷◌, ◌++◌, refl, sym, ap, ◌∙◌, subst, append_assoc}
use Rattle.std.specs.List.{flat_map}
use Rattle.std.proofs.lemmas.List.{append-nil}
use Rattle.std.proofs.lemmas.List.Concat.{flat_map-append}
use Rattle.lc_frame.specs.declared.frame.Frame.{Frame}
use Rattle.lc_frame.specs.declared.version.Version.{Version}
use Rattle.lc_frame.specs.Encoding.{encoding}
use Rattle.lc_frame.specs.Version.{greeting}
use Rattle.lc_peer.specs.Peer.{PeerState, inbox}
use Rattle.lc_peer.specs.Calls.{due, take_on}
use Rattle.lc_peer.specs.Arrivals.{Arrival, arrivals, arrive, arrive_unless, violation_at}
use Rattle.lc_book.specs.declared.fault.Violation.{Violation}
use Rattle.lc_frame.specs.declared.channel.Channel.{Channel}
use Rattle.lc_frame.specs.Stored.{fed}
use Rattle.lc_frame.specs.Splits.{frames_of as frames_of_piece}
use Rattle.lc_lines.specs.Closing.{close as close_lines}
use Rattle.lc_mux.specs.Ends.{over}
use Rattle.std.specs.Prelude.{is_some}
use Rattle.lc_peer.specs.Streams.{Streams, IsPeerOf, IsEndOf, then_put, then_honours, then_arrives, then_takes}
use Rattle.lc_peer.proofs.StreamsKept.{calls_keep_streams, new_peers_are_of_streams}
use Rattle.lc_lines.specs.Scheduler.{SchedulerState}
use Rattle.lc_lines.specs.Lines.{with_scheduler}
use Rattle.lc_mux.specs.Mux.{MuxState, text}
use Rattle.lc_mux.specs.Writing.Entry.{puts, honours}
use Rattle.lc_mux.specs.Writing.{Entry, enter, frames_by, enter_all, frames_of}
use Rattle.lc_mux.specs.History as history
use Rattle.lc_mux.specs.History.{History, outbound, IsMuxOf, GoesOn, Continues}
use Rattle.lc_mux.proofs.Puts.{settles_put, unless_put, enter_all-append, enter_all-queue, enter_all-version, puts_then, flush_put, flows_put, notices_put, close_put}
use Rattle.lc_mux.proofs.Closed.{arrivals_version, arrivals_waiting}

-- these streams one step further by a call of the peer, and by such calls one after another
abbrev then_enters : Entry → PeerState → Streams → Streams
then_enters (puts f) p s = then_put f s
then_enters (honours c) p s = then_honours c (due p c) s

abbrev then_enter_all : List Entry → PeerState → Streams → Streams
then_enter_all [] p s = s
then_enter_all (e ∷ later) p s = then_enter_all later (enter e p) (then_enters e p s)

peer_enters : (e : Entry) (s : Streams) (p : PeerState) → IsPeerOf s p → IsPeerOf (then_enters e p s) (enter e p)
peer_enters (puts f) s p h = (calls_keep_streams s p h).puts f
peer_enters (honours c) s p h = (calls_keep_streams s p h).honours c

peer_enters_all : (xs : List Entry) (s : Streams) (p : PeerState) → IsPeerOf s p → IsPeerOf (then_enter_all xs p s) (enter_all xs p)
peer_enters_all [] s p h = h
peer_enters_all (e ∷ xs) s p h = peer_enters_all xs (then_enters e p s) (enter e p) (peer_enters e s p h)

-- what such calls leave of the streams: frames more that the peer put
record PutsMore (frames : List Frame) (s s' : Streams) : Type 0 where
  pub version : s'.version ≡ s.version
  pub put : s'.put ≡ s.put ++ frames
  pub arrived : s'.arrived ≡ s.arrived

puts_more : (e : Entry) (p : PeerState) (s : Streams) → PutsMore (frames_by e p) s (then_enters e p s)
puts_more (puts f) p s = record { version = refl; put = refl; arrived = refl }
puts_more (honours c) p s = record { version = refl; put = refl; arrived = refl }

puts_all : (xs : List Entry) (p : PeerState) (s : Streams) → PutsMore (frames_of xs p) s (then_enter_all xs p s)
puts_all [] p s = record { version = refl; put = sym (append-nil s.put); arrived = refl }
puts_all (e ∷ xs) p s =
    let first = puts_more e p s in
    let rest = puts_all xs (enter e p) (then_enters e p s) in
    record {
      version = rest.version ∙ first.version;
      put = rest.put ∙ (ap (λ (x : List Frame). x ++ frames_of xs (enter e p)) first.put ∙ append_assoc s.put (frames_by e p) (frames_of xs (enter e p)));
      arrived = rest.arrived ∙ first.arrived;
    }

peer_queue : (s : Streams) (p : PeerState) (w : List Frame) → IsEndOf s.put w → IsPeerOf s p → IsPeerOf s (record p { waiting = w })
peer_queue s p w end h = record { version = h.version; places = h.places; channels = h.channels; waiting = end }

end_after : (put waiting entered gone waiting' : List Frame) → IsEndOf put waiting → waiting ++ entered ≡ gone ++ waiting' → IsEndOf (put ++ entered) waiting'
end_after put waiting entered gone waiting' end queue = (
  end.0 ++ gone,
  ap (λ (x : List Frame). x ++ entered) end.1 ∙ (append_assoc end.0 waiting entered ∙ (ap (λ (x : List Frame). end.0 ++ x) queue ∙ sym (append_assoc end.0 gone waiting'))),
)

outbound_put : (s s' : Streams) (frames : List Frame) → PutsMore frames s s' → outbound s' ≡ outbound s ++ flat_map (encoding s.version) frames
outbound_put s s' frames more =
    ap (λ (v : Version). greeting v ++ flat_map (encoding v) s'.put) more.version
    ∙ (ap (λ (x : List Frame). greeting s.version ++ flat_map (encoding s.version) x) more.put
    ∙ (ap (λ (x : List ℕ). greeting s.version ++ x) (flat_map-append (encoding s.version) s.put frames)
    ∙ sym (append_assoc (greeting s.version) (flat_map (encoding s.version) s.put) (flat_map (encoding s.version) frames))))

continues_by : (m m' : MuxState) (written : List ℕ) (entered : List Entry) (gone : List Frame) →
    written ++ text m' ≡ text m ++ flat_map (encoding m.lines.scheduler.peer.version) (frames_of entered m.lines.scheduler.peer) →
    m.lines.scheduler.peer.waiting ++ frames_of entered m.lines.scheduler.peer ≡ gone ++ m'.lines.scheduler.peer.waiting →
    m'.lines.scheduler.peer ≡ record (enter_all entered m.lines.scheduler.peer) { waiting = m'.lines.scheduler.peer.waiting } →
    Continues written m m'
continues_by m m' written entered gone bytes queue peer = λ h is.
    let p = m.lines.scheduler.peer in
    let frames = frames_of entered p in
    let streams = then_enter_all entered p h.streams in
    let more = puts_all entered p h.streams in
    let w = m'.lines.scheduler.peer.waiting in
    let end : IsEndOf streams.put w = subst (λ (x : List Frame). IsEndOf x w) (sym more.put) (end_after h.streams.put p.waiting frames gone w is.peer.waiting queue) in
    let whole = peer_queue streams (enter_all entered p) w end (peer_enters_all entered h.streams p is.peer) in
    let behind : written ++ text m' ≡ text m ++ flat_map (encoding h.streams.version) frames = bytes ∙ ap (λ (v : Version). text m ++ flat_map (encoding v) frames) is.peer.version in (
      record { given = h.given ++ written; streams = streams },
      (
        record { given = refl; version = more.version; put = (frames, more.put); arrived = ([], more.arrived ∙ sym (append-nil h.streams.arrived)) },
        record {
          peer = subst (IsPeerOf streams) (sym peer) whole;
          bytes = append_assoc h.given written (text m')
              ∙ (ap (λ (x : List ℕ). h.given ++ x) behind
              ∙ (sym (append_assoc h.given (text m) (flat_map (encoding h.streams.version) frames))
              ∙ (ap (λ (x : List ℕ). x ++ flat_map (encoding h.streams.version) frames) is.bytes
              ∙ sym (outbound_put h.streams streams frames more))));
        },
      ),
    )

-- a session of which frames entered, and nothing was written
continues_with : (m m' : MuxState) (entered : List Entry) → m'.lines.scheduler.peer ≡ enter_all entered m.lines.scheduler.peer → m'.pending ≡ m.pending → Continues [] m m'
continues_with m m' entered is pending =
    let p = m.lines.scheduler.peer in
    let all = frames_of entered p in
    let peer : m'.lines.scheduler.peer ≡ record (enter_all entered p) { waiting = p.waiting ++ all } = is ∙ enter_all-queue entered p p.waiting in
    let waiting : m'.lines.scheduler.peer.waiting ≡ p.waiting ++ all = ap (λ (q : PeerState). q.waiting) peer in
    let version : m'.lines.scheduler.peer.version ≡ p.version = ap (λ (q : PeerState). q.version) peer ∙ enter_all-version entered p in
    let bytes : text m' ≡ text m ++ flat_map (encoding p.version) all =
    ap (λ (x : List ℕ). x ++ flat_map (encoding m'.lines.scheduler.peer.version) m'.lines.scheduler.peer.waiting) pending
    ∙ (ap (λ (v : Version). m.pending ++ flat_map (encoding v) m'.lines.scheduler.peer.waiting) version
    ∙ (ap (λ (w : List Frame). m.pending ++ flat_map (encoding p.version) w) waiting
    ∙ (ap (λ (x : List ℕ). m.pending ++ x) (flat_map-append (encoding p.version) p.waiting all)
    ∙ sym (append_assoc m.pending (flat_map (encoding p.version) p.waiting) (flat_map (encoding p.version) all))))) in
    continues_by m m' [] entered [] bytes (sym waiting) (peer ∙ ap (λ (w : List Frame). record (enter_all entered p) { waiting = w }) (sym waiting))

pub writes_continue : history.WritesContinue
writes_continue m m' written g = continues_by m m' written g.entered g.gone g.bytes g.queue g.peer

pub calls_continue : history.CallsContinue
calls_continue m m' s entered is changes pending =
    let later = flows_put m.closing m.owed (with_scheduler m.lines s) m'.owed m'.lines changes in
    continues_with m m' (entered ++ later.0) (later.1.peer ∙ (ap (enter_all later.0) is ∙ sym (enter_all-append entered later.0 m.lines.scheduler.peer))) pending

pub controls_continue : history.ControlsContinue
controls_continue m m' o owes pending =
    let puts = flush_put m.closing o m.lines m'.owed m'.lines owes in
    continues_with m m' puts.0 puts.1.peer pending

continues_if : (b : Bool) (m x y : MuxState) → Continues [] m x → Continues [] m y → Continues [] m (if b then x else y)
continues_if true m x y h k = h
continues_if false m x y h k = k

pub closes_continue : history.ClosesContinue
closes_continue m =
    let puts = close_put m.lines.scheduler in
    let closed : MuxState = record m { lines = with_scheduler m.lines (close_lines m.lines.scheduler); closing = true } in
    continues_if (is_some (over m)) m m closed (continues_with m m [] refl refl) (continues_with m closed puts.0 puts.1.peer refl)

pub notices_continue : history.NoticesContinue
notices_continue m m' notice is pending =
    let first = notices_put notice m.lines is.0 is.1.0 in
    let rest = unless_put m.closing m.owed is.0 m'.owed m'.lines is.1.1 in
    let all = puts_then first.0 rest.0 m.lines.scheduler is.0.scheduler m'.lines.scheduler first.1 rest.1 in
    continues_with m m' (first.0 ++ rest.0) all.peer pending

-- what the streams keep where frames arrive or a message is taken: the frames that were put
record KeepsPut (s s' : Streams) : Type 0 where
  pub version : s'.version ≡ s.version
  pub put : s'.put ≡ s.put
  pub arrived : (later : List Frame) × (s'.arrived ≡ s.arrived ++ later)

keeps_none : (s : Streams) → KeepsPut s s
keeps_none s = record { version = refl; put = refl; arrived = ([], sym (append-nil s.arrived)) }

keeps_then : (f : Frame) (s s' : Streams) → KeepsPut (then_arrives f s) s' → KeepsPut s s'
keeps_then f s s' k = record { version = k.version; put = k.put; arrived = (f ∷ k.arrived.0, k.arrived.1 ∙ append_assoc s.arrived (f ∷ []) k.arrived.0) }

-- the streams of a peer that became another, by what arrived or was taken
abbrev Becomes : Streams → PeerState → Type 0
Becomes s q = (s' : Streams) × (KeepsPut s s' × IsPeerOf s' q)

arrives_by : (f : Frame) (s : Streams) (p : PeerState) (v : Option Violation) (later : Arrival) → IsPeerOf s p → Becomes (then_arrives f s) later.peer → Becomes s (arrive_unless p v later).peer
arrives_by f s p None later h rest = (rest.0, (keeps_then f s rest.0 rest.1.0, rest.1.1))
arrives_by f s p (Some v) later h rest = (s, (keeps_none s, h))

streams_arrive : (frames : List Frame) (s : Streams) (p : PeerState) → IsPeerOf s p → Becomes s (arrivals p frames).peer
streams_arrive [] s p h = (s, (keeps_none s, h))
streams_arrive (f ∷ frames) s p h =
    arrives_by f s p (violation_at p f) (arrivals (arrive p f) frames) h (streams_arrive frames (then_arrives f s) (arrive p f) ((calls_keep_streams s p h).arrives f))

takes_by : (messages : List (List ℕ)) (c : Channel) (s : Streams) (p : PeerState) → (inbox p c).ring.messages ≡ messages → IsPeerOf s p → Becomes s (take_on p c)
takes_by [] c s p e h = (s, (keeps_none s, (calls_keep_streams s p h).takes_none c e))
takes_by (m ∷ later) c s p e h =
    let some : 0 < length (inbox p c).ring.messages = omega (arith, ap length e) in
    (then_takes c s, (record { version = refl; put = refl; arrived = ([], sym (append-nil s.arrived)) }, (calls_keep_streams s p h).takes c some))

abbrev with_peer : MuxState → PeerState → MuxState
with_peer m q = record m { lines = with_scheduler m.lines (record m.lines.scheduler { peer = q }) }

continues_at : (m : MuxState) (q : PeerState) → q.version ≡ m.lines.scheduler.peer.version → q.waiting ≡ m.lines.scheduler.peer.waiting →
    ((s : Streams) → IsPeerOf s m.lines.scheduler.peer → Becomes s q) → Continues [] m (with_peer m q)
continues_at m q version waiting becomes = λ h is.
    let next = becomes h.streams is.peer in
    let s = next.0 in
    let keeps = next.1.0 in
    let same : text (with_peer m q) ≡ text m =
    ap (λ (v : Version). m.pending ++ flat_map (encoding v) q.waiting) version
    ∙ ap (λ (w : List Frame). m.pending ++ flat_map (encoding m.lines.scheduler.peer.version) w) waiting in
    let all : outbound s ≡ outbound h.streams =
    ap (λ (v : Version). greeting v ++ flat_map (encoding v) s.put) keeps.version
    ∙ ap (λ (x : List Frame). greeting h.streams.version ++ flat_map (encoding h.streams.version) x) keeps.put in (
      record { given = h.given ++ []; streams = s },
      (
        record { given = refl; version = keeps.version; put = ([], keeps.put ∙ sym (append-nil h.streams.put)); arrived = keeps.arrived },
        record {
          peer = next.1.1;
          bytes = ap (λ (x : List ℕ). x ++ text (with_peer m q)) (append-nil h.given)
              ∙ (ap (λ (x : List ℕ). h.given ++ x) same ∙ (is.bytes ∙ sym all));
        },
      ),
    )

pub runs_continue : history.ContinuesOn
runs_continue a b c x y first later = λ h is.
    let mid = first h is in
    let end = later mid.0 mid.1.1 in
    let g = mid.1.0 in
    let k = end.1.0 in (
      end.0,
      (
        record {
          given = k.given ∙ (ap (λ (z : List ℕ). z ++ y) g.given ∙ append_assoc h.given x y);
          version = k.version ∙ g.version;
          put = (g.put.0 ++ k.put.0, k.put.1 ∙ (ap (λ (z : List Frame). z ++ k.put.0) g.put.1 ∙ append_assoc h.streams.put g.put.0 k.put.0));
          arrived = (g.arrived.0 ++ k.arrived.0, k.arrived.1 ∙ (ap (λ (z : List Frame). z ++ k.arrived.0) g.arrived.1 ∙ append_assoc h.streams.arrived g.arrived.0 k.arrived.0));
        },
        end.1.1,
      ),
    )

pub what_is_written_is_first : history.WrittenIsFirst
what_is_written_is_first h m is = (text m, sym is.bytes)

pub new_sessions_continue : history.NewContinues
new_sessions_continue config rings = record { peer = new_peers_are_of_streams config rings; bytes = refl }

pub deliveries_continue : history.DeliveriesContinue
deliveries_continue m m' piece d is pending =
    let p = m.lines.scheduler.peer in
    let came = is.1.0 in
    let q = came.peer in
    let frames = frames_of_piece (fed m.intake.held piece) in
    let version = ap (λ (x : PeerState). x.version) came.delivers.peer ∙ arrivals_version p frames in
    let waiting = ap (λ (x : PeerState). x.waiting) came.delivers.peer ∙ arrivals_waiting p frames in
    let first = continues_at m q version waiting (λ s h. subst (Becomes s) (sym came.delivers.peer) (streams_arrive frames s p h)) in
    let s : SchedulerState = record m.lines.scheduler { peer = q } in
    let behind = settles_put (with_scheduler m.lines s) is.0 came.settles in
    let rest = flush_put m.closing m.owed is.0 m'.owed m'.lines is.1.1 in
    let all = puts_then behind.0 rest.0 s is.0.scheduler m'.lines.scheduler behind.1 rest.1 in
    runs_continue m (with_peer m q) m' [] [] first (continues_with (with_peer m q) m' (behind.0 ++ rest.0) all.peer pending)

pub takes_continue : history.TakesContinue
takes_continue m m' c changes pending =
    let p = m.lines.scheduler.peer in
    let q = take_on p c in
    let first = continues_at m q refl refl (λ s h. takes_by (inbox p c).ring.messages c s p refl h) in
    let later = calls_continue (with_peer m q) m' (record m.lines.scheduler { peer = q }) [] refl changes pending in
    runs_continue m (with_peer m q) m' [] [] first later
