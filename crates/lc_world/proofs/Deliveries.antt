-- The answers to a delivery and to an arrival.
use Rattle.lc_frame.specs.Stored.{Stored}
use Rattle.std.proofs.Common.{◌≡◌, ℕ, zero, suc, ◌+◌, ◌<◌, ◌≤◌, List, [], ◌∷◌, ◌++◌, length, take, drop, Option, None, refl, sym, ap, ap₂, ◌∙◌, subst, inl, inr, arith}
use Rattle.std.specs.Prelude.{◌-◌, ◌⊎◌, min, All}
use Rattle.std.proofs.lemmas.List.{append_assoc, length-append, length-take, length-drop, take_all}
use Rattle.std.proofs.lemmas.Grind.{flat_map-append}
use Rattle.std.proofs.Math.Seq.{drop-append_seam}
use Rattle.lc_frame.specs.declared.version.Version.{Version}
use Rattle.lc_frame.specs.declared.frame.Frame.{Frame}
use Rattle.lc_frame.specs.declared.frame_fault.FrameFault.{FrameFault}
use Rattle.std.specs.List.{AllByRecursion}
use Rattle.lc_frame.specs.Version.{greeting}
use Rattle.lc_frame.specs.Frame.{IsValid}
use Rattle.lc_frame.specs.Encoding.{encoding, FrameStands}
use Rattle.lc_frame.specs.Decoded.{IsOpen, OnlyFrame, OnlyFault}
use Rattle.lc_book.specs.declared.fault.Violation.{Violation}
use Rattle.lc_world.specs.declared.endpoint.Endpoint.{Endpoint}
use Rattle.lc_world.specs.declared.event.Act.TheVariants.{Arrive, Deliver}
use Rattle.lc_world.specs.declared.event.Answer.TheVariants.{Arrived, Delivered, NothingInFlight}
use Rattle.lc_world.specs.State.{Line, stream, size, arrive_on, deliver_over, deliver_on, arrive_first}
use Rattle.lc_world.specs.Answers.{arrival, arrive_answer, bytes_in_flight, delivery_violation, delivery, deliver_answer}
use Rattle.lc_world.specs.Delivery.{bytes_of, text_of, delivered, HasBegun, IsInOrder}
use Rattle.lc_world.specs.Endpoint.{line_of, capacity_of, of_lines, AreEnds, AreInStep, Acts, Brings}
use Rattle.lc_world.proofs.Lawful.{no_violation, all_pass, sound_to_a}
use Rattle.lc_world.proofs.Bytes.{size-cons, text-length, has_bytes, none_or_some, below_or_not, behind_first, begun_within, arrives_whole}
use Rattle.lc_world.proofs.Parts.{each_behind, first_stands}
use Rattle.lc_world.proofs.Fed.{held_length}

-- a slice from a place to the end
pub tail_is : (xs ys : List ℕ) (m : ℕ) → xs ≡ ys → take (length xs - m) (drop m xs) ≡ drop m ys
tail_is xs ys m e = take_all (length xs - m) (drop m xs) (omega (arith, length-drop m xs)) ∙ ap (drop m) e

-- no more is delivered than is in flight
at_most : (frames : List Frame) (n : ℕ) (l : Line) → deliver_over frames (min n (length (bytes_of l.version frames))) l ≡ deliver_over frames n l
at_most [] n l = refl
at_most (f ∷ rest) n l =
    elim (below_or_not n (size l.version f)) [
      | inl lt ↦ ap (λ (m : ℕ). deliver_over (f ∷ rest) m l) (omega (arith, lt, size-cons l.version f rest))
      | inr le ↦
          behind_first f rest (min n (length (bytes_of l.version (f ∷ rest)))) l (omega (arith, le, size-cons l.version f rest))
          ∙ (ap (λ (m : ℕ). deliver_over rest m (arrive_first l (f ∷ rest))) (omega (arith, le, size-cons l.version f rest))
          ∙ (at_most rest (n - size l.version f) (arrive_first l (f ∷ rest)) ∙ sym (behind_first f rest n l le)))
    ]

all_of : (count : ℕ) (l : Line) → IsInOrder l → deliver_on (min count (bytes_in_flight l)) l ≡ deliver_on count l
all_of count l h =
    let some : ℕ = min count (bytes_in_flight l) in
    let len : ℕ = length (bytes_of l.version l.in_flight) in
    let m : Line = record l { greeting_left = l.greeting_left - count } in
    ap₂ (λ (n left : ℕ). deliver_over l.in_flight n (record l { greeting_left = left }))
    (let e : l.begun + (some - l.greeting_left) ≡ min (l.begun + (count - l.greeting_left)) len = omega (arith, begun_within l.version l.in_flight l.begun h.begun) in e)
    (let e : l.greeting_left - some ≡ l.greeting_left - count = omega arith in e)
    ∙ at_most l.in_flight (l.begun + (count - l.greeting_left)) m

-- where frames have no bytes there are none
none_left : (v : Version) (frames : List Frame) → length (bytes_of v frames) ≤ 0 → frames ≡ []
none_left v [] le = refl
none_left v (f ∷ rest) le = absurd (omega (arith, le, size-cons v f rest, has_bytes v f))

some_left : (v : Version) (frames : List Frame) → 0 < length (bytes_of v frames) → (f : Frame) × (rest : List Frame) × (frames ≡ f ∷ rest)
some_left v [] lt = absurd (omega (arith, lt))
some_left v (f ∷ rest) lt = (f, rest, refl)

delivers_as : (k : ℕ) (mine theirs : Line) (count some bytes : ℕ) → some ≡ min count bytes → 0 < bytes → delivery_violation k mine theirs.in_flight (theirs.begun + (count - theirs.greeting_left)) theirs ≡ None → deliver_answer k mine theirs count bytes ≡ Delivered some (length (deliver_on count theirs).arrived - length theirs.arrived)
delivers_as k mine theirs count some zero e lt passes = absurd (omega (arith, lt))
delivers_as k mine theirs count some (suc n) e lt passes = ap₂ (λ (o : Option Violation) (m : ℕ). delivery o m (length (deliver_on count theirs).arrived - length theirs.arrived)) passes (sym e)

module _ (k : ℕ) (mine theirs : Line) (me peer : Endpoint) (h : AreEnds k mine theirs me peer) where
  abbrev v : Version
  v = theirs.version

  -- where the first frame in flight begins
  abbrev place : ℕ
  place = length (text_of v theirs.arrived)

  place_is : place ≡ length (greeting v) + length (bytes_of v theirs.arrived)
  place_is = text-length v theirs.arrived

  joined : peer.stream.items ≡ text_of v theirs.arrived ++ bytes_of v theirs.in_flight
  joined = h.their_end.bytes ∙ ap (λ (x : List ℕ). greeting v ++ x) (flat_map-append (encoding v) theirs.arrived theirs.in_flight) ∙ sym (append_assoc (greeting v) (bytes_of v theirs.arrived) (bytes_of v theirs.in_flight))

  pub whole : length peer.stream.items ≡ place + length (bytes_of v theirs.in_flight)
  whole = ap length joined ∙ length-append (text_of v theirs.arrived) (bytes_of v theirs.in_flight)

  -- the greeting is gone, or no byte of a frame was delivered
  gone_or_first : (theirs.greeting_left ≡ 0) ⊎ ((length (bytes_of v theirs.arrived) ≡ 0) × (theirs.begun ≡ 0))
  gone_or_first =
      elim (none_or_some theirs.greeting_left) [
        | inl gone ↦ inl gone
        | inr some ↦ let none = h.their_line.order.first some in inr (ap (λ (fs : List Frame). length (bytes_of v fs)) none.0, none.1)
      ]

  -- what was delivered is what stands before the place and what has begun, but for what is in flight of the greeting
  pub delivered_is : peer.delivered + theirs.greeting_left ≡ place + theirs.begun
  delivered_is =
      elim gone_or_first [
        | inl gone ↦ omega (arith, h.their_end.count, place_is, gone)
        | inr none ↦ omega (arith, h.their_end.count, place_is, h.their_line.order.part, none.0, none.1)
      ]

  pub left_is : length peer.stream.items - peer.delivered ≡ bytes_in_flight theirs
  left_is = omega (arith, whole, delivered_is, begun_within v theirs.in_flight theirs.begun h.their_line.order.begun)

  pub no_frame_in_flight : length peer.stream.items ≤ place → theirs.in_flight ≡ []
  no_frame_in_flight le = none_left v theirs.in_flight (omega (arith, le, whole))

  first_in_flight : place < length peer.stream.items → (f : Frame) × (rest : List Frame) × (theirs.in_flight ≡ f ∷ rest)
  first_in_flight lt = some_left v theirs.in_flight (omega (arith, lt, whole))

  all : All (λ b. b < 256) (text_of v (stream theirs))
  all = subst (λ (x : List ℕ). All (λ b. b < 256) x) h.their_end.bytes h.their_end.are_bytes

  -- the place by what the decoder holds
  held_is : (length me.decoder.bytes ≡ length (take theirs.begun (bytes_of v theirs.in_flight))) ⊎ ((length me.decoder.bytes ≡ length (take (delivered theirs) (text_of v (stream theirs)))) × (length (take (delivered theirs) (text_of v (stream theirs))) ≤ length (greeting v)))
  held_is = subst (λ (x : Stored). (length x.bytes ≡ length (take theirs.begun (bytes_of v theirs.in_flight))) ⊎ ((length x.bytes ≡ length (take (delivered theirs) (text_of v (stream theirs)))) × (length (take (delivered theirs) (text_of v (stream theirs))) ≤ length (greeting v)))) (sym h.my_end.held) (held_length theirs h.their_line all)

  all_delivered : length (take (delivered theirs) (text_of v (stream theirs))) ≡ peer.delivered
  all_delivered = omega (arith, length-take (delivered theirs) (text_of v (stream theirs)), h.their_end.count, whole, ap length h.their_end.bytes, delivered_is, begun_within v theirs.in_flight theirs.begun h.their_line.order.begun)

  begun_is : length (take theirs.begun (bytes_of v theirs.in_flight)) ≡ theirs.begun
  begun_is = omega (arith, length-take theirs.begun (bytes_of v theirs.in_flight), begun_within v theirs.in_flight theirs.begun h.their_line.order.begun)

  pub held_within : length me.decoder.bytes ≤ peer.delivered
  held_within = elim held_is [
    | inl e ↦ omega (arith, e, begun_is, delivered_is, place_is, h.their_line.order.part)
    | inr p ↦ omega (arith, p.0, all_delivered)
  ]

  -- the place by what the decoder holds
  pub place_at_greeting : peer.delivered - length me.decoder.bytes < length (greeting v) → place ≡ length (greeting v)
  place_at_greeting lt =
      elim held_is [
        | inl e ↦ elim gone_or_first [
          | inl gone ↦ omega (arith, lt, e, begun_is, delivered_is, place_is, gone)
          | inr none ↦ omega (arith, place_is, none.0)
        ]
        | inr p ↦ elim gone_or_first [
          | inl gone ↦ omega (arith, p.1, all_delivered, delivered_is, place_is, gone)
          | inr none ↦ omega (arith, place_is, none.0)
        ]
      ]

  pub place_behind : length (greeting v) ≤ peer.delivered - length me.decoder.bytes → place ≡ peer.delivered - length me.decoder.bytes
  place_behind le =
      elim held_is [
        | inl e ↦ elim gone_or_first [
          | inl gone ↦ omega (arith, e, begun_is, delivered_is, gone)
          | inr none ↦ omega (arith, le, e, begun_is, delivered_is, place_is, none.0, none.1)
        ]
        | inr p ↦ elim gone_or_first [
          | inl gone ↦ omega (arith, le, p.0, p.1, all_delivered, delivered_is, place_is, gone)
          | inr none ↦ omega (arith, le, p.0, all_delivered, place_is, none.0)
        ]
      ]

  text_is : drop place peer.stream.items ≡ bytes_of v theirs.in_flight
  text_is = ap (drop place) joined ∙ drop-append_seam (text_of v theirs.arrived) (bytes_of v theirs.in_flight)

  stands : (f : Frame) (rest : List Frame) → theirs.in_flight ≡ f ∷ rest → FrameStands v f (drop place peer.stream.items)
  stands f rest e =
      subst (FrameStands v f) (sym (text_is ∙ ap (bytes_of v) e))
      (first_stands v f rest (subst (λ (fs : List Frame). AllByRecursion (IsValid v) fs) e (each_behind v theirs.arrived theirs.in_flight h.their_line.valid)).0)

module _ (me peer : Endpoint) (h : AreInStep me peer) where
  abbrev k : ℕ
  k = capacity_of me

  abbrev mine : Line
  mine = line_of me peer

  abbrev theirs : Line
  theirs = line_of peer me

  pub deliver_none : (count : ℕ) → length peer.stream.items ≤ peer.delivered → Acts me peer me peer (Deliver count) NothingInFlight
  deliver_none count le =
      let none : bytes_in_flight theirs ≡ 0 = sym (left_is k mine theirs me peer h.ends) ∙ omega (arith, le) in
      record { right = inl (ap (deliver_answer k mine theirs count) (sym none)); ends = h.ends }

  pub deliver_acts : (new other : Endpoint) (count some frames : ℕ) → some ≡ min count (length peer.stream.items - peer.delivered) → peer.delivered < length peer.stream.items → Brings me peer new other some frames → Acts me peer new other (Deliver count) (Delivered some frames)
  deliver_acts new other count some frames e lt b =
      let left = left_is k mine theirs me peer h.ends in
      let some_is : some ≡ min count (bytes_in_flight theirs) = e ∙ ap (min count) left in
      let same : deliver_on some theirs ≡ deliver_on count theirs = ap (λ (n : ℕ). deliver_on n theirs) some_is ∙ all_of count theirs h.ends.their_line.order in
      let frames_is : frames ≡ length (deliver_on count theirs).arrived - length theirs.arrived = omega (arith, b.frames_are, ap (λ (l : Line). length l.arrived) same) in
      let passes = all_pass k h.ends.small mine theirs.in_flight (theirs.begun + (count - theirs.greeting_left)) theirs refl (sound_to_a (of_lines k mine theirs) h.ends.sound) in
      record {
        right = inl (ap (Delivered some) frames_is ∙ sym (delivers_as k mine theirs count some (bytes_in_flight theirs) some_is (omega (arith, lt, left)) passes));
        ends = subst (λ (l : Line). AreEnds k mine l new other) same b.ends;
      }

  abbrev start : ℕ
  start = length (text_of theirs.version theirs.arrived)

  -- the place by what the decoder holds
  pub held_is_within : length me.decoder.bytes ≤ peer.delivered
  held_is_within = held_within k mine theirs me peer h.ends

  pub start_at_greeting : (len held : ℕ) → len ≡ length (greeting peer.peer.version) → held ≡ length me.decoder.bytes → peer.delivered - held < len → len ≡ start
  start_at_greeting len held e eh lt =
      let same : len ≡ length (greeting theirs.version) = e in
      same ∙ sym (place_at_greeting k mine theirs me peer h.ends (omega (arith, lt, same, eh)))

  pub start_behind : (len held : ℕ) → len ≡ length (greeting peer.peer.version) → held ≡ length me.decoder.bytes → len ≤ peer.delivered - held → peer.delivered - held ≡ start
  start_behind len held e eh le =
      let same : len ≡ length (greeting theirs.version) = e in
      ap (λ (n : ℕ). peer.delivered - n) eh ∙ sym (place_behind k mine theirs me peer h.ends (omega (arith, le, same, eh)))

  -- the frame that stands there
  module _ (first_at : ℕ) (first_is : first_at ≡ start) where
    pub arrive_none : length peer.stream.items ≤ first_at → Acts me peer me peer Arrive NothingInFlight
    arrive_none le = record { right = inl (ap (arrive_answer k mine theirs) (sym (no_frame_in_flight k mine theirs me peer h.ends (omega (arith, le, first_is))))); ends = h.ends }

    module _ (lt : first_at < length peer.stream.items) (bytes : List ℕ) (bytes_are : bytes ≡ drop first_at peer.stream.items) (v : Version) (v_is : v ≡ peer.peer.version) where
      in_flight_first : (f : Frame) × (rest : List Frame) × (theirs.in_flight ≡ f ∷ rest)
      in_flight_first = first_in_flight k mine theirs me peer h.ends (omega (arith, lt, first_is))

      abbrev first : Frame
      first = in_flight_first.0

      abbrev rest : List Frame
      rest = in_flight_first.1

      is_first : theirs.in_flight ≡ first ∷ rest
      is_first = in_flight_first.2

      first_there : FrameStands v first bytes
      first_there =
          subst (λ (w : Version). FrameStands w first bytes) (sym v_is)
          (subst (FrameStands theirs.version first) (sym (bytes_are ∙ ap (λ (n : ℕ). drop n peer.stream.items) first_is)) (stands k mine theirs me peer h.ends first rest is_first))

      pub first_is_known : IsOpen v bytes → ⊥
      first_is_known is_open = is_open.no_frame first first_there

      pub first_is_no_fault : (e : FrameFault) → OnlyFault v e bytes → ⊥
      first_is_no_fault e only = only.no_frame first first_there

      module _ (f : Frame) (used : ℕ) (only : OnlyFrame v f bytes) (used_is : used ≡ length (encoding v f)) where
        used_first : used ≡ size theirs.version first
        used_first = used_is ∙ ap (size v) (sym (only.same first first_there)) ∙ ap (λ (w : Version). size w first) v_is

        begun_below : theirs.begun < size theirs.version first
        begun_below = subst (λ (fs : List Frame). HasBegun theirs.version fs theirs.begun) is_first h.ends.their_line.order.begun

        -- the greeting that is in flight and the missing bytes of the frame
        missing_is : first_at + used - peer.delivered ≡ theirs.greeting_left + (size theirs.version first - theirs.begun)
        missing_is = omega (arith, first_is, used_first, begun_below, delivered_is k mine theirs me peer h.ends)

        pub delivered_before : peer.delivered ≤ first_at + used
        delivered_before = omega (arith, first_is, used_first, begun_below, delivered_is k mine theirs me peer h.ends)

        pub used_within : first_at + used ≤ length peer.stream.items
        used_within = omega (arith, first_is, used_first, whole k mine theirs me peer h.ends, ap (λ (fs : List Frame). length (bytes_of theirs.version fs)) is_first, size-cons theirs.version first rest)

        pub arrive_acts : (new other : Endpoint) (frames : ℕ) → Brings me peer new other (first_at + used - peer.delivered) frames → Acts me peer new other Arrive Arrived
        arrive_acts new other frames b =
            let same : deliver_on (first_at + used - peer.delivered) theirs ≡ arrive_on theirs = ap (λ (n : ℕ). deliver_on n theirs) missing_is ∙ sym (arrives_whole first rest theirs is_first begun_below) in
            let passes = no_violation k h.ends.small mine theirs (sound_to_a (of_lines k mine theirs) h.ends.sound) first rest is_first in
            record {
              right = inl (sym (ap (arrive_answer k mine theirs) is_first ∙ ap arrival passes));
              ends = subst (λ (l : Line). AreEnds k mine l new other) same b.ends;
            }
