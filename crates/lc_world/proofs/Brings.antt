-- What bytes in flight bring to the end where they are delivered.
use Rattle.lc_frame.specs.declared.version.Version.{Version}
use Rattle.lc_frame.specs.Stored.{Stored, fed, HasFault}
use Rattle.std.proofs.Common.{◌≡◌, ℕ, ◌+◌, ◌<◌, ◌≤◌, List, [], ◌∷◌, ◌++◌, length, get_or, take, drop, Option, Some, None, refl, sym, ap, ap₂, ◌∙◌, subst, inl, inr, arith}
use Rattle.std.specs.Prelude.{◌-◌, All}
use Rattle.std.specs.List.{AllByRecursion}
use Rattle.std.proofs.lemmas.List.{append-nil, append_assoc, length-append}
use Rattle.lc_frame.specs.declared.channel.Channel.{Channel}
use Rattle.lc_frame.specs.declared.frame.Frame.{Frame}
use Rattle.lc_frame.specs.declared.frame.Frame.TheVariants as frame
use Rattle.lc_frame.specs.declared.frame_fault.FrameFault.{FrameFault}
use Rattle.lc_frame.specs.Channel.{channel_count, number_of}
use Rattle.lc_frame.specs.Kind.{max_amount}
use Rattle.lc_frame.specs.Frame.{channel_of, IsValid}
use Rattle.lc_frame.specs.Splits.{frames_of, rest_of}
use Rattle.lc_frame.proofs.Channels.{number_below}
use Rattle.lc_book.specs.declared.fault.Violation.{Violation}
use Rattle.lc_book.specs.Client.{Client}
use Rattle.lc_book.specs.Server.{Server}
use Rattle.lc_book.specs.Sums.{asked_after}
use Rattle.lc_peer.specs.declared.delivery.Delivery.{Delivery}
use Rattle.lc_peer.specs.declared.delivery.Stop.{Stop}
use Rattle.lc_peer.specs.declared.delivery.Stop.TheVariants.{Fault, Violated}
use Rattle.lc_peer.specs.Peer.{PeerState}
use Rattle.lc_peer.specs.Arrivals.{Arrival, violation, violation_at, arrive, arrive_unless, arrivals}
use Rattle.lc_peer.specs.Deliveries.{TookAll, MetViolation, MetFault, StopsBy, Delivers}
use Rattle.lc_peer.specs.Streams.{IsPeerOf, at, then_arrives}
use Rattle.lc_peer.proofs.StreamsKept.{calls_keep_streams}
use Rattle.lc_world.specs.declared.event.Side.{Side}
use Rattle.lc_world.specs.declared.event.Side.TheVariants.{A, B}
use Rattle.lc_world.specs.declared.endpoint.Endpoint.{Endpoint}
use Rattle.lc_world.specs.State.{Line, line, other, stream, keep_pleads, size, arrive_first, deliver_over, deliver_on}
use Rattle.lc_world.specs.Sound.{AllFit, Sound, IsSound}
use Rattle.lc_world.specs.Delivery.{text_of, delivered}
use Rattle.lc_world.specs.Endpoint.{line_of, capacity_of, streams_of, of_lines, IsLine, AreEnds, AreInStep, Brings, stored_of}
use Rattle.lc_world.proofs.Delivers.{deliver_keeps}
use Rattle.lc_world.proofs.Streams.{stream-deliver, version-deliver}
use Rattle.lc_world.proofs.Sound.{sound_delivers, sound_delivers_theirs}
use Rattle.lc_world.proofs.Lawful.{SoundTo, arrives_soundly, no_violation, sound_to_a}
use Rattle.lc_world.proofs.Pleads.{places_come, places_deliver}
use Rattle.lc_world.proofs.Bytes.{below_or_not, within_first, behind_first, order_delivers, deliveries_add}
use Rattle.lc_world.proofs.Fed.{frames_come, rest_held, no_fault_held}
use Rattle.lc_world.proofs.Deliveries.{left_is}
use Rattle.lc_world.proofs.Calls.{peer_same, at_set, at_own}

-- the plead that is kept after an arrival, by channel
asked_is : (f : Frame) (asked : List (Option ℕ)) → length asked ≡ channel_count → (c : Channel) → at (channel_of f) (asked_after f (get_or asked (number_of (channel_of f)) None)) (λ (b : Channel). get_or asked (number_of b) None) c ≡ get_or (keep_pleads f asked) (number_of c) None
asked_is (frame.Plead d target) asked len c = at_set asked None d (Some target) (omega (arith, len, number_below d)) c
asked_is f asked len c = at_own asked None (channel_of f) c

-- the frames that a delivery brings to a peer, up to so many bytes, and what they leave of it
record Comes (k : ℕ) (mine l new : Line) (n : ℕ) (p : PeerState) : Type 0 where
  came : List Frame
  parts : l.in_flight ≡ came ++ new.in_flight
  arrived : new.arrived ≡ l.arrived ++ came
  lawful : (arrivals p came).violation ≡ None
  count : (arrivals p came).count ≡ length came
  sums : IsPeerOf (streams_of k mine new) (arrivals p came).peer
  slots : (arrivals p came).peer.slots ≡ p.slots
  waiting : (arrivals p came).peer.waiting ≡ p.waiting

module _ (k : ℕ) (small : k ≤ max_amount) (mine : Line) where
  -- the first frame in flight arrives lawfully
  passes : (l : Line) (p : PeerState) (f : Frame) (rest : List Frame) → l.in_flight ≡ f ∷ rest → SoundTo k mine l → IsPeerOf (streams_of k mine l) p → violation_at p f ≡ None
  passes l p f rest e s h =
      let books = h.channels (channel_of f) in
      ap₂ (λ (cl : Client) (sv : Server). violation cl sv f) books.client books.server ∙ no_violation k small mine l s f rest e

  one_comes : (l : Line) (p : PeerState) (f : Frame) (rest : List Frame) → length l.asked ≡ channel_count → IsPeerOf (streams_of k mine l) p → IsPeerOf (streams_of k mine (arrive_first l (f ∷ rest))) (arrive p f)
  one_comes l p f rest places h =
      peer_same (then_arrives f (streams_of k mine l)) (stream mine) (streams_of k mine (arrive_first l (f ∷ rest))).taken (streams_of k mine (arrive_first l (f ∷ rest))).asked (arrive p f) refl (λ c. refl) (asked_is f l.asked places) ((calls_keep_streams (streams_of k mine l) p h).arrives f)

  after_first : (p : PeerState) (f : Frame) (came : List Frame) → violation_at p f ≡ None → arrivals p (f ∷ came) ≡ record (arrivals (arrive p f) came) { count = (arrivals (arrive p f) came).count + 1 }
  after_first p f came e = ap (λ (o : Option Violation). arrive_unless p o (arrivals (arrive p f) came)) e

  comes : (frames : List Frame) (n : ℕ) (l : Line) (p : PeerState) → l.in_flight ≡ frames → length l.asked ≡ channel_count → SoundTo k mine l → IsPeerOf (streams_of k mine l) p → Comes k mine l (deliver_over frames n l) n p
  comes [] n l p e places s h =
      record {
        came = [];
        parts = refl;
        arrived = sym (append-nil l.arrived);
        lawful = refl;
        count = refl;
        sums = h;
        slots = refl;
        waiting = refl;
      }
  comes (f ∷ rest) n l p e places s h =
      elim (below_or_not n (size l.version f)) [
        | inl lt ↦
            subst (λ (x : Line). Comes k mine l x n p) (sym (within_first f rest n l lt)) (record {
              came = [];
              parts = refl;
              arrived = sym (append-nil l.arrived);
              lawful = refl;
              count = refl;
              sums = h;
              slots = refl;
              waiting = refl;
            })
        | inr le ↦
            let next : Line = arrive_first l (f ∷ rest) in
            let last : Line = deliver_over rest (n - size l.version f) next in
            let sound : SoundTo k mine next = subst (λ (fs : List Frame). SoundTo k mine (arrive_first l fs)) e (arrives_soundly k mine l s) in
            let later : Comes k mine next last (n - size l.version f) (arrive p f) = comes rest (n - size l.version f) next (arrive p f) refl (places_come f l.asked ∙ places) sound (one_comes l p f rest places h) in
            let first : arrivals p (f ∷ later.came) ≡ record (arrivals (arrive p f) later.came) { count = (arrivals (arrive p f) later.came).count + 1 } = after_first p f later.came (passes l p f rest e s h) in
            subst (λ (x : Line). Comes k mine l x n p) (sym (behind_first f rest n l le)) (record {
              came = f ∷ later.came;
              parts = e ∙ ap (λ (fs : List Frame). f ∷ fs) later.parts;
              arrived = later.arrived ∙ append_assoc l.arrived (f ∷ []) later.came;
              lawful = ap (λ (a : Arrival). a.violation) first ∙ later.lawful;
              count = ap (λ (a : Arrival). a.count) first ∙ (ap (λ (m : ℕ). m + 1) later.count ∙ omega arith);
              sums = subst (λ (a : Arrival). IsPeerOf (streams_of k mine last) a.peer) (sym first) later.sums;
              slots = ap (λ (a : Arrival). a.peer.slots) first ∙ later.slots;
              waiting = ap (λ (a : Arrival). a.peer.waiting) first ∙ later.waiting;
            })
      ]

-- what a delivery leaves of a line
taken_arrives : (frames : List Frame) (l : Line) → length (arrive_first l frames).taken ≡ length l.taken
taken_arrives [] l = refl
taken_arrives (f ∷ rest) l = refl

line_delivered : (count : ℕ) (l : Line) → IsLine l → IsLine (deliver_on count l)
line_delivered count l h =
    record {
      valid = subst (λ (v : Version). AllByRecursion (IsValid v) (stream (deliver_on count l))) (sym (version-deliver count l)) (subst (λ (fs : List Frame). AllByRecursion (IsValid l.version) fs) (sym (stream-deliver count l)) h.valid);
      order = order_delivers count l h.order;
      taken_places = deliver_keeps (λ (x : Line). length x.taken ≡ channel_count) (record { begins = λ x m n e. e; arrives = λ x e. taken_arrives x.in_flight x ∙ e }) count l h.taken_places;
      asked_places = places_deliver count l ∙ h.asked_places;
    }

sums_delivered : (k : ℕ) (mine theirs : Line) (count : ℕ) → IsSound (of_lines k mine theirs) → (s : Side) (c : Channel) → Sound k c (line (of_lines k mine (deliver_on count theirs)) s) (line (of_lines k mine (deliver_on count theirs)) (other s))
sums_delivered k mine theirs count h A c = sound_delivers_theirs k c count mine theirs (h.sums A c)
sums_delivered k mine theirs count h B c = sound_delivers k c count theirs mine (h.sums B c)

limits_delivered : (k : ℕ) (mine theirs : Line) (count : ℕ) → IsSound (of_lines k mine theirs) → (s : Side) → AllFit [] (stream (line (of_lines k mine (deliver_on count theirs)) s))
limits_delivered k mine theirs count h A = h.limits A
limits_delivered k mine theirs count h B = subst (λ (fs : List Frame). AllFit [] fs) (sym (stream-deliver count theirs)) (h.limits B)

-- the greeting that is in flight changes nothing of what is sound
sound_ahead : (k : ℕ) (mine l : Line) (left : ℕ) → SoundTo k mine l → SoundTo k mine (record l { greeting_left = left })
sound_ahead k mine l left s = record {
  as_client = λ c. let h = s.as_client c in record { solvent = h.solvent; roomy = h.roomy; total = h.total; taken_of_arrived = h.taken_of_arrived; places = h.places };
  as_server = λ c. let h = s.as_server c in record { solvent = h.solvent; roomy = h.roomy; total = h.total; taken_of_arrived = h.taken_of_arrived; places = h.places };
  fits = s.fits;
}

-- bytes in flight are delivered at the first of two ends
module _ (k : ℕ) (mine theirs : Line) (me peer : Endpoint) (h : AreEnds k mine theirs me peer) (count : ℕ) (within : peer.delivered + count ≤ length peer.stream.items) (piece : List ℕ) (piece_is : piece ≡ take count (drop peer.delivered peer.stream.items)) where
  abbrev new : Line
  new = deliver_on count theirs

  abbrev ahead : Line
  ahead = record theirs { greeting_left = theirs.greeting_left - count }

  brought : Comes k mine ahead new (theirs.begun + (count - theirs.greeting_left)) me.peer
  brought = comes k h.small mine theirs.in_flight (theirs.begun + (count - theirs.greeting_left)) ahead me.peer refl h.their_line.asked_places (sound_ahead k mine theirs (theirs.greeting_left - count) (sound_to_a (of_lines k mine theirs) h.sound)) h.my_end.peer.sums

  new_line : IsLine new
  new_line = line_delivered count theirs h.their_line

  piece_of_text : piece ≡ take count (drop (delivered theirs) (text_of theirs.version (stream theirs)))
  piece_of_text = piece_is ∙ ap₂ (λ (n : ℕ) (x : List ℕ). take count (drop n x)) h.their_end.count h.their_end.bytes

  all : All (λ b. b < 256) (text_of theirs.version (stream theirs))
  all = subst (λ (x : List ℕ). All (λ b. b < 256) x) h.their_end.bytes h.their_end.are_bytes

  same_text : text_of new.version (stream new) ≡ text_of theirs.version (stream theirs)
  same_text = ap₂ text_of (version-deliver count theirs) (stream-deliver count theirs)

  -- as many bytes of the stream were delivered
  counted : delivered new ≡ delivered theirs + count
  counted =
      let left = left_is k mine theirs me peer h in
      (deliveries_add theirs h.their_line.order).counts count ∙ omega (arith, left, within)

  fed_is : fed me.decoder piece ≡ fed (stored_of theirs) (take count (drop (delivered theirs) (text_of theirs.version (stream theirs))))
  fed_is = ap₂ fed h.my_end.held piece_of_text

  frames_is : frames_of (fed me.decoder piece) ≡ brought.came
  frames_is = ap frames_of fed_is ∙ frames_come theirs new h.their_line new_line (version-deliver count theirs) (stream-deliver count theirs) count counted all brought.came brought.arrived

  rest_is : rest_of (fed me.decoder piece) ≡ stored_of new
  rest_is = ap rest_of fed_is ∙ rest_held theirs new h.their_line new_line (version-deliver count theirs) (stream-deliver count theirs) count counted all

  abbrev Arrived : Arrival
  Arrived = arrivals me.peer (frames_of (fed me.decoder piece))

  arrived_is : Arrived ≡ arrivals me.peer brought.came
  arrived_is = ap (arrivals me.peer) frames_is

  -- nothing stops it
  pub no_violation_stops : (v : Violation) (held : Stored) → MetViolation v Arrived (fed me.decoder piece) held → ⊥
  no_violation_stops v held met = let none : None ≡ Some v = sym brought.lawful ∙ (sym (ap (λ (a : Arrival). a.violation) arrived_is) ∙ met.violates) in cc

  pub no_fault_stops : (e : FrameFault) (held : Stored) (taken : ℕ) → MetFault e Arrived (fed me.decoder piece) held taken → ⊥
  no_fault_stops e held taken met = no_fault_held new new_line (subst (λ (x : List ℕ). All (λ b. b < 256) x) (sym same_text) all) e (subst (HasFault e) rest_is met.stands)

  -- and it leaves the ends of the lines after it
  module _ (me' peer' : Endpoint) (frames : ℕ) (ep : me'.peer ≡ Arrived.peer) (ef : frames ≡ Arrived.count) (eh : me'.decoder ≡ rest_of (fed me.decoder piece)) (es : me'.stream.items ≡ me.stream.items) (ed : me'.delivered ≡ me.delivered) (ep' : peer'.peer ≡ peer.peer) (es' : peer'.stream.items ≡ peer.stream.items) (ed' : peer'.delivered ≡ peer.delivered + count) (ec' : peer'.decoder ≡ peer.decoder) where
    peer_is : me'.peer ≡ (arrivals me.peer brought.came).peer
    peer_is = ep ∙ ap (λ (a : Arrival). a.peer) arrived_is

    all_counted : peer'.delivered ≡ delivered new
    all_counted = ed' ∙ ap (λ (n : ℕ). n + count) h.their_end.count ∙ sym counted

    pub ends_brought : AreEnds k mine new me' peer'
    ends_brought =
        record {
          small = h.small;
          my_end = record {
            peer = record {
              sums = subst (λ (q : PeerState). IsPeerOf (streams_of k mine new) q) (sym peer_is) brought.sums;
              one_slot = ap (λ (q : PeerState). q.slots) peer_is ∙ (brought.slots ∙ h.my_end.peer.one_slot);
              none_waits = ap (λ (q : PeerState). q.waiting) peer_is ∙ (brought.waiting ∙ h.my_end.peer.none_waits);
            };
            bytes = es ∙ h.my_end.bytes;
            are_bytes = subst (λ (x : List ℕ). All (λ b. b < 256) x) (sym es) h.my_end.are_bytes;
            count = ed ∙ h.my_end.count;
            held = eh ∙ rest_is;
          };
          their_end = record {
            peer = record {
              sums = subst (λ (q : PeerState). IsPeerOf (streams_of k new mine) q) (sym ep') (subst (λ (v : Version). IsPeerOf (record (streams_of k theirs mine) { version = v; put = stream new }) peer.peer) (sym (version-deliver count theirs)) (subst (λ (fs : List Frame). IsPeerOf (record (streams_of k theirs mine) { put = fs }) peer.peer) (sym (stream-deliver count theirs)) h.their_end.peer.sums));
              one_slot = ap (λ (q : PeerState). q.slots) ep' ∙ h.their_end.peer.one_slot;
              none_waits = ap (λ (q : PeerState). q.waiting) ep' ∙ h.their_end.peer.none_waits;
            };
            bytes = es' ∙ (h.their_end.bytes ∙ sym same_text);
            are_bytes = subst (λ (x : List ℕ). All (λ b. b < 256) x) (sym es') h.their_end.are_bytes;
            count = all_counted;
            held = ec' ∙ h.their_end.held;
          };
          my_line = h.my_line;
          their_line = line_delivered count theirs h.their_line;
          sound = record { sums = sums_delivered k mine theirs count h.sound; limits = limits_delivered k mine theirs count h.sound };
        }

    pub frames_brought : length new.arrived ≡ length theirs.arrived + frames
    frames_brought = ap length brought.arrived ∙ (length-append theirs.arrived brought.came ∙ ap (λ (n : ℕ). length theirs.arrived + n) (sym (ef ∙ (ap (λ (a : Arrival). a.count) arrived_is ∙ brought.count))))

-- what the peer's delivery says of it
module _ (me peer : Endpoint) (h : AreInStep me peer) (count : ℕ) (within : peer.delivered + count ≤ length peer.stream.items) (piece : List ℕ) (piece_is : piece ≡ take count (drop peer.delivered peer.stream.items)) (d : Delivery) (q : PeerState) (held : Stored) (says : Delivers me.peer me.decoder piece q held d) where
  abbrev StopsAs : Option Stop → Type 0
  StopsAs o = StopsBy o (arrivals me.peer (frames_of (fed me.decoder piece))) (fed me.decoder piece) piece held d.taken

  pub nothing_stops : (stop : Stop) → d.stop ≡ Some stop → ⊥
  nothing_stops (Violated v) e = no_violation_stops (capacity_of me) (line_of me peer) (line_of peer me) me peer h.ends count within piece piece_is v held (subst StopsAs e says.stop)
  nothing_stops (Fault f) e = no_fault_stops (capacity_of me) (line_of me peer) (line_of peer me) me peer h.ends count within piece piece_is f held d.taken (subst StopsAs e says.stop)

  pub delivery_brings : (new other : Endpoint) → d.stop ≡ None → new.peer ≡ q → new.decoder ≡ held → new.stream.items ≡ me.stream.items → new.delivered ≡ me.delivered → other.peer ≡ peer.peer → other.stream.items ≡ peer.stream.items → other.delivered ≡ peer.delivered + count → other.decoder ≡ peer.decoder → Brings me peer new other count d.frames
  delivery_brings new other e ep eh es ed ep' es' ed' ec' =
      let took : TookAll (arrivals me.peer (frames_of (fed me.decoder piece))) (fed me.decoder piece) piece held d.taken = subst StopsAs e says.stop in
      record {
        frames_are = frames_brought (capacity_of me) (line_of me peer) (line_of peer me) me peer h.ends count within piece piece_is new other d.frames (ep ∙ says.peer) says.frames (eh ∙ took.rest) es ed ep' es' ed' ec';
        ends = ends_brought (capacity_of me) (line_of me peer) (line_of peer me) me peer h.ends count within piece piece_is new other d.frames (ep ∙ says.peer) says.frames (eh ∙ took.rest) es ed ep' es' ed' ec';
      }
