-- What an own event is to two ends.
use Rattle.lc_frame.specs.declared.version.Version.{Version}
use Rattle.std.proofs.Common.{◌≡◌, ℕ, ◌+◌, ◌<◌, ◌≤◌, Bool, List, [], ◌∷◌, ◌++◌, length, get_or, set, take, drop, Option, Some, None, refl, sym, ap, ◌∙◌, subst, inl, inr, arith, ap₂}
use Rattle.std.specs.Prelude.{◌⊎◌, slice_get, All, IfSome, if◌then◌else◌}
use Rattle.std.specs.List.{AllByRecursion}
use Rattle.std.proofs.lemmas.Bool.Decides.{nat_tests}
use Rattle.std.proofs.lemmas.List.{append-nil, append_assoc, length-set, get_or-set_same, get_or-set_other, take-append-le}
use Rattle.std.proofs.lemmas.List.Concat.{flat_map-cons}
use Rattle.std.proofs.lemmas.Grind.{flat_map-append}
use Rattle.lc_frame.specs.declared.channel.Channel.{Channel}
use Rattle.lc_frame.specs.declared.frame.Frame.{Frame}
use Rattle.lc_frame.specs.declared.frame.Frame.TheVariants as frame
use Rattle.lc_frame.specs.Channel.{channel_count, number_of}
use Rattle.lc_frame.specs.Frame.{channel_of, IsValid}
use Rattle.lc_frame.specs.Version.{greeting}
use Rattle.lc_frame.specs.Encoding.{encoding}
use Rattle.lc_frame.specs.Stored.{opened}
use Rattle.lc_frame.specs.Splits.{rest_of}
use Rattle.lc_frame.proofs.Channels.{cases_same, same_is_same, number_below}
use Rattle.lc_book.specs.declared.fault.Refusal.{Refusal}
use Rattle.lc_book.specs.declared.fault.Refusal.TheVariants.{OutOfMemory}
use Rattle.lc_book.specs.Client.{Client, amount_to_absolve}
use Rattle.lc_book.specs.Server.{Server}
use Rattle.lc_peer.specs.Peer.{PeerState, channel, server}
use Rattle.lc_peer.specs.Calls.{book_refusal, refusal_by_books, put, due, absolvings, put_honour, next, without_next, queue_refusal}
use Rattle.lc_peer.specs.Streams.{IsChannelOf, IsEndOf, Streams, IsPeerOf, at, then_put, then_honours}
use Rattle.lc_peer.proofs.StreamsKept.{calls_keep_streams}
use Rattle.lc_world.specs.declared.endpoint.Endpoint.{Endpoint}
use Rattle.lc_world.specs.declared.event.Act.{Act}
use Rattle.lc_world.specs.declared.event.Act.TheVariants.{Send, Issue, Plead, Absolve, Honour, LimitSending, LimitReceiving, Finish, Arrive, Deliver, Take}
use Rattle.lc_world.specs.declared.event.Answer.{Answer}
use Rattle.lc_world.specs.declared.event.Answer.TheVariants.{Accepted, Absolved, NothingToAbsolve, Refused}
use Rattle.lc_world.specs.State.{Line, stream, client_book, server_book, put_on, forget_on, size}
use Rattle.lc_world.specs.Answers.{judged, honour_judged, honour_answer, frame_put, MayWantMemory, IsUnlessMemory, IsAnswerOf, put_any, mine_after, theirs_after}
use Rattle.lc_world.specs.Delivery.{bytes_of, text_of, delivered, IsInOrder}
use Rattle.lc_world.specs.Endpoint.{line_of, capacity_of, streams_of, of_lines, IsPeerBetween, IsEnd, IsLine, AreEnds, AreInStep, Acts, stored_of}
use Rattle.lc_world.specs.Calls.{with_next, own_channel, put_any_at, after_call, IsCallAnswer, Called}
use Rattle.lc_world.proofs.Streams.{stream-put}
use Rattle.lc_world.proofs.Steps.{sound_lines}
use Rattle.lc_world.proofs.Bytes.{none_or_some, begun_within, order_mine, bytes-append, text-length, within_it, behind_it}
use Rattle.lc_world.proofs.Parts.{each_append}
use Rattle.lc_world.proofs.Ends.{client_is, server_is}

-- a peer of streams is that of streams with the same numbers
pub peer_same : (s : Streams) (put' : List Frame) (taken' : Channel → ℕ) (asked' : Channel → Option ℕ) (p : PeerState) → s.put ≡ put' → ((c : Channel) → s.taken c ≡ taken' c) → ((c : Channel) → s.asked c ≡ asked' c) → IsPeerOf s p → IsPeerOf (record s { put = put'; taken = taken'; asked = asked' }) p
peer_same s put' taken' asked' p ep et ea h =
    record {
      version = h.version;
      places = h.places;
      channels = λ c.
          subst (λ (fs : List Frame). IsChannelOf s.version (s.capacity c) c fs s.arrived (taken' c) (asked' c) (channel p c)) ep
          (subst (λ (n : ℕ). IsChannelOf s.version (s.capacity c) c s.put s.arrived n (asked' c) (channel p c)) (et c)
          (subst (λ (o : Option ℕ). IsChannelOf s.version (s.capacity c) c s.put s.arrived (s.taken c) o (channel p c)) (ea c) (h.channels c)));
      waiting = subst (λ (fs : List Frame). IsEndOf fs p.waiting) ep h.waiting;
    }

-- a list with one entry set, as a function of channels
module _ {X : Type 0} (xs : List X) (e : X) where
  abbrev by_channel : Channel → X
  by_channel c = get_or xs (number_of c) e

  pub at_set : (d : Channel) (x : X) → number_of d < length xs → (c : Channel) → at d x by_channel c ≡ get_or (set xs (number_of d) x) (number_of c) e
  at_set d x places c =
      elim (cases_same c d) [
        | inl same ↦ subst (λ (b : Channel). at d x by_channel b ≡ get_or (set xs (number_of d) x) (number_of b) e) (sym same) (ap (λ (b : Bool). if b then x else by_channel d) (same_is_same d) ∙ sym (get_or-set_same xs (number_of d) x e places))
        | inr apart ↦ ap (λ (b : Bool). if b then x else by_channel c) apart ∙ sym (get_or-set_other xs (number_of d) (number_of c) x e (grind (arith, nat_tests, apart)))
      ]

  pub at_own : (d c : Channel) → at d (by_channel d) by_channel c ≡ by_channel c
  at_own d c =
      elim (cases_same c d) [
        | inl same ↦ subst (λ (b : Channel). at d (by_channel d) by_channel b ≡ by_channel b) (sym same) (ap (λ (b : Bool). if b then by_channel d else by_channel d) (same_is_same d))
        | inr apart ↦ ap (λ (b : Bool). if b then by_channel d else by_channel c) apart
      ]

-- the text of a stream with a frame more
pub text_put : (l : Line) (f : Frame) → text_of l.version (stream (put_on l f)) ≡ text_of l.version (stream l) ++ encoding l.version f
text_put l f =
    let v : Version = l.version in
    ap (text_of v) (stream-put l f)
    ∙ (ap (λ (x : List ℕ). greeting v ++ x) (flat_map-append (encoding v) (stream l) (f ∷ []) ∙ ap (λ (x : List ℕ). bytes_of v (stream l) ++ x) (flat_map-cons (encoding v) f [] ∙ append-nil (encoding v f)))
    ∙ sym (append_assoc (greeting v) (bytes_of v (stream l)) (encoding v f)))

-- the answer to an honour says what is due
absolved_due : (r : Option Refusal) (o : Option ℕ) (amount : ℕ) → (Absolved amount ≡ honour_judged r o) ⊎ (Unit {0} × (Absolved amount ≡ Refused OutOfMemory)) → o ≡ Some amount
absolved_due (Some r) o amount h = elim h [ inl e ↦ cc | inr p ↦ let e = p.1 in cc ]
absolved_due None None amount h = elim h [ inl e ↦ cc | inr p ↦ let e = p.1 in cc ]
absolved_due None (Some n) amount h = elim h [ inl e ↦ cc | inr p ↦ let e = p.1 in cc ]

nothing_due : (r : Option Refusal) (o : Option ℕ) → (NothingToAbsolve ≡ honour_judged r o) ⊎ (Unit {0} × (NothingToAbsolve ≡ Refused OutOfMemory)) → o ≡ None
nothing_due (Some r) o h = elim h [ inl e ↦ cc | inr p ↦ let e = p.1 in cc ]
nothing_due None None h = refl
nothing_due None (Some n) h = elim h [ inl e ↦ cc | inr p ↦ let e = p.1 in cc ]

-- the peer after the call, when what it put has gone out
module _ (k : ℕ) (mine theirs : Line) (p : PeerState) (h : IsPeerBetween k mine theirs p) where
  -- what waits is out
  goes : (s : Streams) (q : PeerState) → IsPeerOf s q → IsPeerOf s (without_next q)
  goes s q is = (calls_keep_streams s q is).goes_out

  puts : (f : Frame) → IsPeerBetween k (put_on mine f) theirs (without_next (put p f))
  puts f =
      record {
        sums = subst (λ (fs : List Frame). IsPeerOf (record (streams_of k mine theirs) { put = fs }) (without_next (put p f))) (sym (stream-put mine f)) (goes (then_put f (streams_of k mine theirs)) (put p f) ((calls_keep_streams (streams_of k mine theirs) p h.sums).puts f));
        one_slot = h.one_slot;
        none_waits = ap (λ (fs : List Frame). drop 1 (fs ++ f ∷ [])) h.none_waits;
      }

  stays : IsPeerBetween k mine theirs (without_next p)
  stays = record { sums = goes (streams_of k mine theirs) p h.sums; one_slot = h.one_slot; none_waits = ap (λ (fs : List Frame). drop 1 fs) h.none_waits }

  honours : (d : Channel) (o : Option ℕ) (new : Line) → new.version ≡ mine.version → number_of d < length theirs.asked → due p d ≡ o → stream mine ++ absolvings d o ≡ stream new → IsPeerBetween k new (forget_on d theirs) (without_next (put_honour p d))
  honours d o new version places e more =
      record {
        sums = subst (λ (v : Version). IsPeerOf (record (streams_of k new (forget_on d theirs)) { version = v }) (without_next (put_honour p d))) (sym version) (peer_same (then_honours d (due p d) (streams_of k mine theirs)) (stream new) (streams_of k new (forget_on d theirs)).taken (streams_of k new (forget_on d theirs)).asked (without_next (put_honour p d))
            (ap (λ (x : Option ℕ). stream mine ++ absolvings d x) e ∙ more) (λ c. refl) (at_set theirs.asked None d None places)
            (goes (then_honours d (due p d) (streams_of k mine theirs)) (put_honour p d) ((calls_keep_streams (streams_of k mine theirs) p h.sums).honours d)));
        one_slot = h.one_slot;
        none_waits = ap (λ (fs : List Frame). drop 1 (fs ++ absolvings d (due p d))) h.none_waits ∙ gone (due p d);
      }
    where
      gone : (x : Option ℕ) → drop 1 (absolvings d x) ≡ []
      gone None = refl
      gone (Some n) = refl

  abbrev Right : Act → Answer → Type 0
  Right act answer = IsAnswerOf k mine theirs act answer

  due_is : (d : Channel) → due p d ≡ amount_to_absolve (client_book d mine theirs)
  due_is d = ap amount_to_absolve (client_is k mine theirs p h d)

  pub called : (act : Act) (answer : Answer) (d : Channel) → own_channel act ≡ Some d → length theirs.asked ≡ channel_count → Right act answer → IsPeerBetween k (mine_after mine theirs act answer) (theirs_after mine theirs act answer) (without_next (after_call act answer p))
  called Arrive answer d e places r = absurd (let f = e in cc)
  called (Deliver count) answer d e places r = absurd (let f = e in cc)
  called (Take c) answer d e places r = absurd (let f = e in cc)
  called (Honour c) (Absolved n) d e places r = honours c (Some n) (put_on mine (frame.Absolve c n)) refl (omega (arith, places, number_below c)) (due_is c ∙ absolved_due _ _ n r) (sym (stream-put mine (frame.Absolve c n)))
  called (Honour c) NothingToAbsolve d e places r = honours c None mine refl (omega (arith, places, number_below c)) (due_is c ∙ nothing_due _ _ r) (append-nil (stream mine))
  called (Send c body) Accepted d e places r = puts (frame.Send c body)
  called (Issue c n) Accepted d e places r = puts (frame.Issue c n)
  called (Plead c n) Accepted d e places r = puts (frame.Plead c n)
  called (Absolve c n) Accepted d e places r = puts (frame.Absolve c n)
  called (LimitSending c n) Accepted d e places r = puts (frame.LimitSending c n)
  called (LimitReceiving c n) Accepted d e places r = puts (frame.LimitReceiving c n)
  called (Finish c) Accepted d e places r = puts (frame.Finish c)
  called act answer d e places r = stays

-- what the two lines keep
pub line_put : (l : Line) (o : Option Frame) → IfSome o (IsValid l.version) → IsLine l → IsLine (put_any l o)
line_put l None valid h = h
line_put l (Some f) valid h =
    record {
      valid = subst (λ (fs : List Frame). AllByRecursion (IsValid l.version) fs) (sym (stream-put l f)) (each_append l.version (stream l) (f ∷ []) h.valid (valid, tt));
      order = order_mine l (Some f) h.order;
      taken_places = h.taken_places;
      asked_places = h.asked_places;
    }

line_forgets : (l : Line) (c : Channel) → IsLine l → IsLine (forget_on c l)
line_forgets l c h = record { valid = h.valid; order = record { begun = h.order.begun; part = h.order.part; first = h.order.first }; taken_places = h.taken_places; asked_places = length-set l.asked (number_of c) None ∙ h.asked_places }

delivered_within : (l : Line) → IsInOrder l → delivered l ≤ length (text_of l.version (stream l))
delivered_within l h =
    elim (none_or_some l.greeting_left) [
      | inl gone ↦ omega (arith, behind_it l h gone, text-length l.version (stream l), bytes-append l.version l.arrived l.in_flight, begun_within l.version l.in_flight l.begun h.begun)
      | inr some ↦ omega (arith, within_it l h some, text-length l.version (stream l))
    ]

-- what is held of a line is so with a frame more
held_put : (l : Line) (f : Frame) → IsInOrder l → stored_of l ≡ stored_of (put_on l f)
held_put l f h =
    ap (λ (x : List ℕ). rest_of (opened x)) (sym (ap (take (delivered l)) (text_put l f) ∙ take-append-le (delivered l) (text_of l.version (stream l)) (encoding l.version f) (delivered_within l h)))

-- the end that reads a line with a frame more, and the one that writes a line of which a plead is forgotten
reader_of_put : (k : ℕ) (mine theirs : Line) (e : Endpoint) (o : Option Frame) → IsInOrder mine → IsEnd k theirs mine e → IsEnd k theirs (put_any mine o) e
reader_of_put k mine theirs e None order h = h
reader_of_put k mine theirs e (Some f) order h =
    record {
      peer = record { sums = h.peer.sums; one_slot = h.peer.one_slot; none_waits = h.peer.none_waits };
      bytes = h.bytes;
      are_bytes = h.are_bytes;
      count = h.count;
      held = h.held ∙ held_put mine f order;
    }

writer_forgets : (k : ℕ) (mine theirs : Line) (e : Endpoint) (c : Channel) → IsEnd k theirs mine e → IsEnd k (forget_on c theirs) mine e
writer_forgets k mine theirs e c h =
    record {
      peer = record { sums = h.peer.sums; one_slot = h.peer.one_slot; none_waits = h.peer.none_waits };
      bytes = h.bytes;
      are_bytes = h.are_bytes;
      count = h.count;
      held = h.held;
    }

-- what a call leaves of the stream's bytes and its count, and of the frame that waits
stream_with : (l : Line) (o : Option Frame) → with_next l.version o (text_of l.version (stream l)) ≡ text_of (put_any l o).version (stream (put_any l o))
stream_with l None = refl
stream_with l (Some f) = sym (text_put l f)

count_with : (l : Line) (o : Option Frame) → delivered l ≡ delivered (put_any l o)
count_with l None = refl
count_with l (Some f) = refl

-- a call leaves the version of the peer
version_put : (o : Option Frame) (p : PeerState) → (put_any_at o p).version ≡ p.version
version_put None p = refl
version_put (Some f) p = refl

version_called : (act : Act) (answer : Answer) (p : PeerState) → (after_call act answer p).version ≡ p.version
version_called (Honour c) (Absolved n) p = refl
version_called (Honour c) NothingToAbsolve p = refl
version_called act answer p = version_put (frame_put act answer) p

-- what an own event leaves of its end, where only the frame went out
pub record Writes (me new : Endpoint) (act : Act) (answer : Answer) : Type 0 where
  pub peer : new.peer ≡ without_next (after_call act answer me.peer)
  pub stream : new.stream.items ≡ with_next me.peer.version (frame_put act answer) me.stream.items
  pub are_bytes : All (λ b. b < 256) new.stream.items
  pub delivered : new.delivered ≡ me.delivered
  pub decoder : new.decoder ≡ me.decoder

module _ (k : ℕ) (mine theirs : Line) where
  -- the frame that waits after the call is the one that the event puts
  pub next_is : (act : Act) (answer : Answer) (d : Channel) (p : PeerState) → own_channel act ≡ Some d → IsPeerBetween k mine theirs p → IsAnswerOf k mine theirs act answer → next (after_call act answer p) ≡ frame_put act answer
  next_is Arrive answer d p e h r = absurd (let f = e in cc)
  next_is (Deliver count) answer d p e h r = absurd (let f = e in cc)
  next_is (Take c) answer d p e h r = absurd (let f = e in cc)
  next_is (Honour c) (Absolved n) d p e h r = ap (λ (fs : List Frame). slice_get (fs ++ absolvings c (due p c)) 0) h.none_waits ∙ ap (λ (o : Option ℕ). slice_get (absolvings c o) 0) (due_is k mine theirs p h c ∙ absolved_due _ _ n r)
  next_is (Honour c) NothingToAbsolve d p e h r = ap (λ (fs : List Frame). slice_get (fs ++ absolvings c (due p c)) 0) h.none_waits ∙ ap (λ (o : Option ℕ). slice_get (absolvings c o) 0) (due_is k mine theirs p h c ∙ nothing_due _ _ r)
  next_is (Send c body) Accepted d p e h r = ap (λ (fs : List Frame). slice_get (fs ++ frame.Send c body ∷ []) 0) h.none_waits
  next_is (Issue c n) Accepted d p e h r = ap (λ (fs : List Frame). slice_get (fs ++ frame.Issue c n ∷ []) 0) h.none_waits
  next_is (Plead c n) Accepted d p e h r = ap (λ (fs : List Frame). slice_get (fs ++ frame.Plead c n ∷ []) 0) h.none_waits
  next_is (Absolve c n) Accepted d p e h r = ap (λ (fs : List Frame). slice_get (fs ++ frame.Absolve c n ∷ []) 0) h.none_waits
  next_is (LimitSending c n) Accepted d p e h r = ap (λ (fs : List Frame). slice_get (fs ++ frame.LimitSending c n ∷ []) 0) h.none_waits
  next_is (LimitReceiving c n) Accepted d p e h r = ap (λ (fs : List Frame). slice_get (fs ++ frame.LimitReceiving c n ∷ []) 0) h.none_waits
  next_is (Finish c) Accepted d p e h r = ap (λ (fs : List Frame). slice_get (fs ++ frame.Finish c ∷ []) 0) h.none_waits
  next_is act answer d p e h r = ap (λ (fs : List Frame). slice_get fs 0) h.none_waits

  held_same : (act : Act) (answer : Answer) (d : Channel) → own_channel act ≡ Some d → stored_of theirs ≡ stored_of (theirs_after mine theirs act answer)
  held_same Arrive answer d e = absurd (let f = e in cc)
  held_same (Deliver count) answer d e = absurd (let f = e in cc)
  held_same (Take c) answer d e = absurd (let f = e in cc)
  held_same (Honour c) (Absolved n) d e = refl
  held_same (Honour c) NothingToAbsolve d e = refl
  held_same act answer d e = refl

  their_line : (act : Act) (answer : Answer) (d : Channel) → own_channel act ≡ Some d → IsLine theirs → IsLine (theirs_after mine theirs act answer)
  their_line Arrive answer d e h = absurd (let f = e in cc)
  their_line (Deliver count) answer d e h = absurd (let f = e in cc)
  their_line (Take c) answer d e h = absurd (let f = e in cc)
  their_line (Honour c) (Absolved n) d e h = line_forgets theirs c h
  their_line (Honour c) NothingToAbsolve d e h = line_forgets theirs c h
  their_line act answer d e h = h

  their_end : (act : Act) (answer : Answer) (d : Channel) (e : Endpoint) → own_channel act ≡ Some d → IsInOrder mine → IsEnd k theirs mine e → IsEnd k (theirs_after mine theirs act answer) (mine_after mine theirs act answer) e
  their_end Arrive answer d e o order h = absurd (let f = o in cc)
  their_end (Deliver count) answer d e o order h = absurd (let f = o in cc)
  their_end (Take c) answer d e o order h = absurd (let f = o in cc)
  their_end (Honour c) (Absolved n) d e o order h = writer_forgets k (put_on mine (frame.Absolve c n)) theirs e c (reader_of_put k mine theirs e (Some (frame.Absolve c n)) order h)
  their_end (Honour c) NothingToAbsolve d e o order h = writer_forgets k mine theirs e c h
  their_end act answer d e o order h = reader_of_put k mine theirs e (frame_put act answer) order h

  -- the answer is that of the books of its channel
  module _ (p : PeerState) (h : IsPeerBetween k mine theirs p) where
    refusal_is : (f : Frame) → refusal_by_books p f ≡ book_refusal (client_book (channel_of f) mine theirs) (server_book k (channel_of f) mine theirs) f
    refusal_is f =
        ap (λ (x : Client). book_refusal x (server p (channel_of f)) f) (client_is k mine theirs p h (channel_of f))
        ∙ ap (λ (x : Server). book_refusal (client_book (channel_of f) mine theirs) x f) (server_is k mine theirs p h (channel_of f))

    frame_right : (act : Act) (answer : Answer) (f : Frame) → IsUnlessMemory act (judged (refusal_by_books p f)) answer → IsUnlessMemory act (judged (book_refusal (client_book (channel_of f) mine theirs) (server_book k (channel_of f) mine theirs) f)) answer
    frame_right act answer f r = subst (λ (o : Option Refusal). IsUnlessMemory act (judged o) answer) (refusal_is f) r

    pub right_by_books : (act : Act) (answer : Answer) (d : Channel) → own_channel act ≡ Some d → IsCallAnswer p act answer → IsAnswerOf k mine theirs act answer
    right_by_books (Send c body) answer d e r = frame_right (Send c body) answer (frame.Send c body) r
    right_by_books (Issue c n) answer d e r = frame_right (Issue c n) answer (frame.Issue c n) r
    right_by_books (Plead c n) answer d e r = frame_right (Plead c n) answer (frame.Plead c n) r
    right_by_books (Absolve c n) answer d e r = frame_right (Absolve c n) answer (frame.Absolve c n) r
    right_by_books (LimitSending c n) answer d e r = frame_right (LimitSending c n) answer (frame.LimitSending c n) r
    right_by_books (LimitReceiving c n) answer d e r = frame_right (LimitReceiving c n) answer (frame.LimitReceiving c n) r
    right_by_books (Finish c) answer d e r = frame_right (Finish c) answer (frame.Finish c) r
    right_by_books (Honour c) answer d e r = subst (λ (b : Client). IsUnlessMemory (Honour c) (honour_answer b) answer) (client_is k mine theirs p h c) r
    right_by_books Arrive answer d e r = absurd (let f = e in cc)
    right_by_books (Deliver count) answer d e r = absurd (let f = e in cc)
    right_by_books (Take c) answer d e r = absurd (let f = e in cc)

-- an own event at the first of two ends
module _ (k : ℕ) (mine theirs : Line) (me peer : Endpoint) (h : AreEnds k mine theirs me peer) where
  own_ends : (new : Endpoint) (act : Act) (answer : Answer) (d : Channel) → own_channel act ≡ Some d → IsAnswerOf k mine theirs act answer → IfSome (frame_put act answer) (IsValid mine.version) → Writes me new act answer → AreEnds k (mine_after mine theirs act answer) (theirs_after mine theirs act answer) new peer
  own_ends new act answer d e right valid w =
      let o : Option Frame = frame_put act answer in
      record {
        small = h.small;
        my_end = record {
          peer = subst (λ (q : PeerState). IsPeerBetween k (mine_after mine theirs act answer) (theirs_after mine theirs act answer) q) (sym w.peer) (called k mine theirs me.peer h.my_end.peer act answer d e h.their_line.asked_places right);
          bytes = w.stream ∙ (ap₂ (λ (v : Version) (x : List ℕ). with_next v o x) h.my_end.peer.sums.version h.my_end.bytes ∙ stream_with mine o);
          are_bytes = w.are_bytes;
          count = w.delivered ∙ (h.my_end.count ∙ count_with mine o);
          held = w.decoder ∙ (h.my_end.held ∙ held_same k mine theirs act answer d e);
        };
        their_end = their_end k mine theirs act answer d peer e h.my_line.order h.their_end;
        my_line = line_put mine o valid h.my_line;
        their_line = their_line k mine theirs act answer d e h.their_line;
        sound = sound_lines (of_lines k mine theirs) act answer right h.sound;
      }

module _ (me peer : Endpoint) (h : AreInStep me peer) where
  pub own_acts : (new : Endpoint) (act : Act) (answer : Answer) (d : Channel) → own_channel act ≡ Some d → IsAnswerOf (capacity_of me) (line_of me peer) (line_of peer me) act answer → IfSome (frame_put act answer) (IsValid me.peer.version) → Writes me new act answer → Acts me peer new peer act answer
  own_acts new act answer d e right valid w = record { right = right; ends = own_ends (capacity_of me) (line_of me peer) (line_of peer me) me peer h.ends new act answer d e right (subst (λ (v : Version). IfSome (frame_put act answer) (IsValid v)) h.ends.my_end.peer.sums.version valid) w }

  pub between : IsPeerBetween (capacity_of me) (line_of me peer) (line_of peer me) me.peer
  between = h.ends.my_end.peer

  -- the slot is free
  pub slot_is_free : queue_refusal me.peer ≡ None
  slot_is_free = rw (between.one_slot, between.none_waits) refl

  -- the call that a Rust event makes, and what goes out after it
  module _ (new : Endpoint) (act : Act) (answer : Answer) (d : Channel) (own : own_channel act ≡ Some d) (q : PeerState) (call : Called me.peer q act answer) where
    right_now : IsAnswerOf (capacity_of me) (line_of me peer) (line_of peer me) act answer
    right_now = right_by_books (capacity_of me) (line_of me peer) (line_of peer me) me.peer between act answer d own call.right

    same_version : q.version ≡ me.peer.version
    same_version = ap (λ (p : PeerState). p.version) call.after ∙ version_called act answer me.peer

    goes_next : next q ≡ frame_put act answer
    goes_next = ap next call.after ∙ next_is (capacity_of me) (line_of me peer) (line_of peer me) act answer d me.peer own between right_now

    pub own_returns : (bytes : List ℕ) → new.peer ≡ without_next q → new.stream.items ≡ with_next q.version (next q) bytes → bytes ≡ me.stream.items → IfSome (next q) (IsValid q.version) → All (λ b. b < 256) new.stream.items → new.delivered ≡ me.delivered → new.decoder ≡ me.decoder → Acts me peer new peer act answer
    own_returns bytes ep es eb valid all ed ec =
        own_acts new act answer d own right_now (subst (λ (v : Version). IfSome (frame_put act answer) (IsValid v)) same_version (subst (λ (o : Option Frame). IfSome o (IsValid q.version)) goes_next valid)) (record {
          peer = ep ∙ ap without_next call.after;
          stream = es ∙ (ap₂ (λ (v : Version) (o : Option Frame). with_next v o bytes) same_version goes_next ∙ ap (λ (x : List ℕ). with_next me.peer.version (frame_put act answer) x) eb);
          are_bytes = all;
          delivered = ed;
          decoder = ec;
        })

    pub own_room : (len room cap : ℕ) → ((a : Answer) → IfSome (frame_put act a) (λ f. IsValid me.peer.version f → size me.peer.version f ≤ room)) → len + room ≤ cap → IfSome (next q) (λ f. IsValid q.version f → len + size q.version f ≤ cap)
    own_room len room cap most le =
        subst (λ (v : Version). IfSome (next q) (λ f. IsValid v f → len + size v f ≤ cap)) (sym same_version)
        (subst (λ (o : Option Frame). IfSome o (λ f. IsValid me.peer.version f → len + size me.peer.version f ≤ cap)) (sym goes_next) (fits (frame_put act answer) (most answer)))
      where
        fits : (o : Option Frame) → IfSome o (λ f. IsValid me.peer.version f → size me.peer.version f ≤ room) → IfSome o (λ f. IsValid me.peer.version f → len + size me.peer.version f ≤ cap)
        fits None h = tt
        fits (Some f) h = λ valid. omega (arith, h valid, le)

  refused_leaves : (act : Act) (p : PeerState) → after_call act (Refused OutOfMemory) p ≡ p
  refused_leaves (Send c body) p = refl
  refused_leaves (Issue c n) p = refl
  refused_leaves (Plead c n) p = refl
  refused_leaves (Absolve c n) p = refl
  refused_leaves (Honour c) p = refl
  refused_leaves (LimitSending c n) p = refl
  refused_leaves (LimitReceiving c n) p = refl
  refused_leaves (Finish c) p = refl
  refused_leaves Arrive p = refl
  refused_leaves (Deliver count) p = refl
  refused_leaves (Take c) p = refl

  may_want : (act : Act) (d : Channel) (right : Answer) → own_channel act ≡ Some d → MayWantMemory act right
  may_want (Send c body) d right e = tt
  may_want (Issue c n) d right e = tt
  may_want (Plead c n) d right e = tt
  may_want (Absolve c n) d right e = tt
  may_want (Honour c) d right e = tt
  may_want (LimitSending c n) d right e = tt
  may_want (LimitReceiving c n) d right e = tt
  may_want (Finish c) d right e = tt
  may_want Arrive d right e = absurd (let f = e in cc)
  may_want (Deliver count) d right e = absurd (let f = e in cc)
  may_want (Take c) d right e = absurd (let f = e in cc)

  none_left : (p : PeerState) → p.waiting ≡ [] → p ≡ without_next p
  none_left p e = ap (λ (fs : List Frame). let q : PeerState = record p { waiting = fs } in q) (e ∙ sym (ap (λ (fs : List Frame). drop 1 fs) e))

  -- the stream got no room
  pub own_refused : (new : Endpoint) (act : Act) (d : Channel) → own_channel act ≡ Some d → new.peer ≡ me.peer → new.stream.items ≡ me.stream.items → new.delivered ≡ me.delivered → new.decoder ≡ me.decoder → Acts me peer new peer act (Refused OutOfMemory)
  own_refused new act d own ep es ed ec =
      own_acts new act (Refused OutOfMemory) d own (inr (may_want act d _ own, refl)) tt (record {
        peer = ep ∙ (none_left me.peer between.none_waits ∙ ap without_next (sym (refused_leaves act me.peer)));
        stream = es;
        are_bytes = subst (λ (x : List ℕ). All (λ b. b < 256) x) (sym es) h.ends.my_end.are_bytes;
        delivered = ed;
        decoder = ec;
      })
