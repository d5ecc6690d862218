-- What the lengths of a ring cut out of its bytes.
use Rattle.std.proofs.Common.{◌≡◌, ℕ, ◌+◌, ◌<◌, ◌≤◌, inl, inr, List, [], ◌∷◌, ◌++◌, length, take, drop, Option, None, Some, refl, sym, ap, ◌∙◌, subst, arith, append_assoc}
use Rattle.std.proofs.lemmas.List.{length-append, length-take, length-take-le, length-drop, append-nil, take-append-le, drop-append-le, take_all, drop_all}
use Rattle.std.proofs.lemmas.List.Sums.{sum_by-cons, sum_by-append}
use Rattle.std.specs.Prelude.{slice_get, IfSome}
use Rattle.std.specs.List.{AllByRecursion, sum, sum_by}
use Rattle.std.specs.Option.{option_map}
use Rattle.lc_frame.specs.declared.version.Version.TheVariants.{Two}
use Rattle.lc_frame.specs.Kind.{max_body}
use Rattle.lc_ring.specs.Ring.{Ring, IsLength, IsRing, bytes, front, push, pop}
use Rattle.lc_ring.specs.Laps.{Laps, waiting, IsPushed, IsTaken}
use Rattle.lc_ring.specs.Lengths.{Lengths}
use Rattle.lc_ring.specs.Cuts.{cut, IsCut, AreOneRing}

abbrev ring_of : List (List ℕ) → ℕ → Ring
ring_of messages capacity = record { messages = messages; capacity = capacity }

-- the ring that a ring of lengths and bytes in laps show
abbrev pub shown : Lengths → Laps → Ring
shown lengths bytes = ring_of (cut lengths.items (waiting bytes)) bytes.turn

-- the lengths cut all of the bytes into messages, wherever the lap ends
abbrev IsWhole : List ℕ → List ℕ → Type 0
IsWhole [] bytes = bytes ≡ []
IsWhole (n ∷ ns) bytes = (1 ≤ n) × (n ≤ max_body Two) × (n ≤ length bytes) × IsWhole ns (drop n bytes)

within-lap : (n : ℕ) (near far : List ℕ) → n < length near → drop n (near ++ far) ≡ drop n near ++ far
within-lap n near far h = drop-append-le n near far (omega (arith, h))

whole-lap : (n : ℕ) (near far : List ℕ) → n ≡ length near → drop n (near ++ far) ≡ far ++ []
whole-lap n near far h =
    drop-append-le n near far (omega (arith, h)) ∙ ap (λ (xs : List ℕ). xs ++ far) (drop_all n near (omega (arith, h))) ∙ sym (append-nil far)

is_whole : (ns near far : List ℕ) → IsCut ns near far → IsWhole ns (near ++ far)
is_whole [] near far h = rw (h.0, h.1) refl
is_whole (n ∷ ns) near far h =
    let long = length-append near far in
    elim h.2 [
      | inl part ↦ (h.0, h.1, omega (arith, long, part.0), rw (within-lap n near far part.0) (is_whole ns (drop n near) far part.1))
      | inr whole ↦ (h.0, h.1, omega (arith, long, whole.0), rw (whole-lap n near far whole.0) (is_whole ns far [] whole.1))
    ]

bytes-cut : (ns bytes : List ℕ) → IsWhole ns bytes → sum_by length (cut ns bytes) ≡ length bytes
bytes-cut [] bytes h = sym (ap length h)
bytes-cut (n ∷ ns) bytes h = sum_by-cons length (take n bytes) (cut ns (drop n bytes)) ∙ omega (arith, bytes-cut ns (drop n bytes) h.3, length-take n bytes, length-drop n bytes, h.2)

each-cut : (ns bytes : List ℕ) → IsWhole ns bytes → AllByRecursion (λ m. IsLength (length m)) (cut ns bytes)
each-cut [] bytes h = tt
each-cut (n ∷ ns) bytes h =
    let len = length-take-le n bytes h.2 in
    (record { at_least = omega (arith, len, h.0); at_most = omega (arith, len, h.1) }, each-cut ns (drop n bytes) h.3)

-- the bytes of the messages are those that wait
pub bytes-shown : (ls : Lengths) (bs : Laps) (at : ℕ) → AreOneRing ls bs at → bytes (shown ls bs) ≡ length bs.near + length bs.far
bytes-shown ls bs at h = bytes-cut ls.items (waiting bs) (is_whole ls.items bs.near bs.far h.is_cut) ∙ length-append bs.near bs.far

-- what every ring keeps
pub ring_is_kept : (ls : Lengths) (bs : Laps) (at : ℕ) → AreOneRing ls bs at → IsRing (shown ls bs)
ring_is_kept ls bs at h =
    let whole = is_whole ls.items bs.near bs.far h.is_cut in
    record { capacity = h.capacity; fits = omega (arith, bytes-cut ls.items (waiting bs) whole, h.fits); each = each-cut ls.items (waiting bs) whole }

-- the lengths add up to the bytes
sum-cut : (ns bytes : List ℕ) → IsWhole ns bytes → sum ns ≡ length bytes
sum-cut [] bs h = sym (ap length h)
sum-cut (n ∷ ns) bs h = omega (arith, sum_by-cons (λ x. x) n ns, sum-cut ns (drop n bs) h.3, length-drop n bs, h.2)

pub sum-lengths : (ls : Lengths) (bs : Laps) (at : ℕ) → AreOneRing ls bs at → sum ls.items ≡ length bs.near + length bs.far
sum-lengths ls bs at h = sum-cut ls.items (waiting bs) (is_whole ls.items bs.near bs.far h.is_cut) ∙ length-append bs.near bs.far

-- a message more, in the lap at the front
near-push : (ns near m : List ℕ) → 1 ≤ length m → length m ≤ max_body Two → IsCut ns near [] → IsCut (ns ++ length m ∷ []) (near ++ m) []
near-push [] near m some short h = rw h.0 (some, short, inr (refl, (refl, refl)))
near-push (n ∷ ns) near m some short h =
    let long = length-append near m in
    elim h.2 [
      | inl part ↦ (h.0, h.1, inl (omega (arith, long, part.0), rw (within-lap n near m part.0) (near-push ns (drop n near) m some short part.1)))
      | inr whole ↦ (h.0, h.1, inl (omega (arith, long, whole.0, some), rw (whole-lap n near m whole.0 ∙ append-nil m) (near-push ns [] m some short whole.1)))
    ]

-- a message more, in the next lap
far-push : (ns near far m : List ℕ) → 1 ≤ length m → length m ≤ max_body Two → 1 ≤ length near → IsCut ns near far → IsCut (ns ++ length m ∷ []) near (far ++ m)
far-push [] near far m some short busy h = absurd (omega (arith, busy, ap length h.0))
far-push (n ∷ ns) near far m some short busy h = elim h.2 [
  | inl part ↦ (h.0, h.1, inl (part.0, far-push ns (drop n near) far m some short (omega (arith, part.0, length-drop n near)) part.1))
  | inr whole ↦ (h.0, h.1, inr (whole.0, near-push ns far m some short whole.1))
]

cut-push : (ns bytes m : List ℕ) → IsWhole ns bytes → cut (ns ++ length m ∷ []) (bytes ++ m) ≡ cut ns bytes ++ m ∷ []
cut-push [] bytes m h = rw h (ap (λ (x : List ℕ). x ∷ []) (take_all (length m) m (omega arith)))
cut-push (n ∷ ns) bytes m h = rw (take-append-le n bytes m h.2, drop-append-le n bytes m h.2) (ap (λ (xs : List (List ℕ)). take n bytes ∷ xs) (cut-push ns (drop n bytes) m h.3))

pub bytes-push : (r : Ring) (m : List ℕ) → bytes (push r m) ≡ bytes r + length m
bytes-push r m = sum_by-append length r.messages (m ∷ []) ∙ omega arith

-- what waits, and the turn, where a message came
pushed-waits : (bs bs' : Laps) (m : List ℕ) → IsPushed bs m bs' → (waiting bs' ≡ waiting bs ++ m) × (bs'.turn ≡ bs.turn) × (bs'.longest ≡ bs.longest)
pushed-waits bs bs' m h = elim h [
  | inl near ↦
      let none : waiting bs ≡ bs.near = ap (λ (xs : List ℕ). bs.near ++ xs) near.0 ∙ append-nil bs.near in
      rw near.1 (ap (λ (xs : List ℕ). (bs.near ++ m) ++ xs) near.0 ∙ append-nil (bs.near ++ m) ∙ ap (λ (xs : List ℕ). xs ++ m) (sym none), refl, refl)
  | inr far ↦ rw far.1 (sym (append_assoc bs.near bs.far m), refl, refl)
]

pushed-cut : (ns : List ℕ) (bs bs' : Laps) (m : List ℕ) → 1 ≤ length m → length m ≤ max_body Two → IsPushed bs m bs' → IsCut ns bs.near bs.far → IsCut (ns ++ length m ∷ []) bs'.near bs'.far
pushed-cut ns bs bs' m some short h is_cut = elim h [
  | inl near ↦ rw (near.1, near.0) (near-push ns bs.near m some short (subst (λ (xs : List ℕ). IsCut ns bs.near xs) near.0 is_cut))
  | inr far ↦ rw far.1 (far-push ns bs.near bs.far m some short far.0 is_cut)
]

module _ (ls ls' : Lengths) (bs bs' : Laps) (m : List ℕ) (at : ℕ)
    (keeps : AreOneRing ls bs at)
    (some : 1 ≤ length m) (short : length m ≤ max_body Two) (room : length bs.near + length bs.far + length m ≤ bs.turn)
    (e : IsPushed bs m bs')
    (e' : ls' ≡ record ls { items = ls.items ++ length m ∷ [] }) where
  whole : IsWhole ls.items (waiting bs)
  whole = is_whole ls.items bs.near bs.far keeps.is_cut

  -- a ring that took a message in keeps what every ring keeps, and shows the message as its last
  pub push_is_one : AreOneRing ls' bs' at
  push_is_one =
      let waits = pushed-waits bs bs' m e in
      rw e' (record {
        is_cut = pushed-cut ls.items bs bs' m some short e keeps.is_cut;
        fits = omega (arith, ap length waits.0, length-append (waiting bs) m, length-append bs.near bs.far, room, waits.1);
        same = keeps.same ∙ sym waits.1;
        longest = waits.2 ∙ keeps.longest;
        ahead = rw waits.1 keeps.ahead;
        capacity = rw waits.1 keeps.capacity;
      })

  pub shown-push : shown ls' bs' ≡ push (shown ls bs) m
  shown-push =
      let waits = pushed-waits bs bs' m e in
      rw (e', waits.0, waits.1) (ap (λ (ms : List (List ℕ)). ring_of ms bs.turn) (cut-push ls.items (waiting bs) m whole))

-- the first length is that of the first message, and within what a message may have
pub front-len : (ls : Lengths) (bs : Laps) (at : ℕ) → AreOneRing ls bs at → slice_get ls.items 0 ≡ option_map length (front (shown ls bs))
front-len ls bs at h = go ls.items (waiting bs) (is_whole ls.items bs.near bs.far h.is_cut)
  where
    go : (ns bytes : List ℕ) → IsWhole ns bytes → slice_get ns 0 ≡ option_map length (slice_get (cut ns bytes) 0)
    go [] bytes h = refl
    go (n ∷ ns) bytes h = ap (λ (m : ℕ). Some m) (sym (length-take-le n bytes h.2))

pub front_in_range : (ls : Lengths) (bs : Laps) (len at : ℕ) → AreOneRing ls bs at → Some len ≡ slice_get ls.items 0 → IsLength len × (len ≤ bytes (shown ls bs))
front_in_range ls bs len at h e =
    let whole = is_whole ls.items bs.near bs.far h.is_cut in
    rw (bytes-cut ls.items (waiting bs) whole) (go ls.items (waiting bs) whole e)
  where
    go : (ns bytes : List ℕ) → IsWhole ns bytes → Some len ≡ slice_get ns 0 → IsLength len × (len ≤ length bytes)
    go [] bytes h e = absurd cc
    go (n ∷ ns) bytes h e =
        let same : len ≡ n = cc in
        rw same (record { at_least = h.0; at_most = h.1 }, h.2)

-- the same of a length that may be
pub front-range : (ls : Lengths) (bs : Laps) (found : Option ℕ) (at : ℕ) → AreOneRing ls bs at → found ≡ slice_get ls.items 0 → IfSome found IsLength × IfSome found (λ len. len ≤ bytes (shown ls bs))
front-range ls bs None at h e = (tt, tt)
front-range ls bs (Some len) at h e = front_in_range ls bs len at h e

-- the first message lies in the lap at the front, as the bytes up to its length
pub first : (ls : Lengths) (bs : Laps) (len at : ℕ) → AreOneRing ls bs at → Some len ≡ option_map length (front (shown ls bs)) → (len ≤ length bs.near) × (Some (take len bs.near) ≡ front (shown ls bs))
first ls bs len at h e = go ls.items bs.near bs.far h.is_cut (e ∙ sym (front-len ls bs at h))
  where
    go : (ns near far : List ℕ) → IsCut ns near far → Some len ≡ slice_get ns 0 → (len ≤ length near) × (Some (take len near) ≡ slice_get (cut ns (near ++ far)) 0)
    go [] near far h e = absurd cc
    go (n ∷ ns) near far h e =
        let same : len ≡ n = cc in
        let within : n ≤ length near = elim h.2 [ inl part ↦ omega (arith, part.0) | inr whole ↦ omega (arith, whole.0) ] in
        rw same (within, ap (λ (m : List ℕ). Some m) (sym (take-append-le n near far within)))

-- the first message has a length that messages have
pub first_is_message : (r : Ring) (message : List ℕ) → IsRing r → Some message ≡ front r → IsLength (length message)
first_is_message r message h e = go r.messages h.each e
  where
    go : (ms : List (List ℕ)) → AllByRecursion (λ m. IsLength (length m)) ms → Some message ≡ slice_get ms 0 → IsLength (length message)
    go [] h e = absurd cc
    go (m ∷ ms) h e =
        let same : message ≡ m = cc in
        rw same h.0

-- a ring whose first message was taken
module _ (ls ls' : Lengths) (bs bs' : Laps) (len at at' : ℕ)
    (keeps : AreOneRing ls bs at)
    (n : Some len ≡ slice_get ls.items 0)
    (e : IsTaken len bs bs')
    (e' : ls' ≡ record ls { items = drop 1 ls.items }) where
  taken-waits : (waiting bs' ≡ drop len (waiting bs)) × (bs'.turn ≡ bs.turn) × (bs'.longest ≡ bs.longest)
  taken-waits = elim e [
    | inl part ↦ rw part.1 (sym (within-lap len bs.near bs.far part.0), refl, refl)
    | inr whole ↦ rw whole.1 (sym (whole-lap len bs.near bs.far whole.0), refl, refl)
  ]

  taken-cut : (ns near far : List ℕ) → near ≡ bs.near → far ≡ bs.far → IsCut ns near far → Some len ≡ slice_get ns 0 → IsCut (drop 1 ns) bs'.near bs'.far × (cut (drop 1 ns) (drop len (near ++ far)) ≡ drop 1 (cut ns (near ++ far)))
  taken-cut [] near far a b h first = absurd cc
  taken-cut (k ∷ ks) near far a b h first =
      let same : len ≡ k = cc in (
        elim h.2 [
          | inl part ↦ elim e [
            | inl now ↦ rw (now.1, sym a, sym b, same) part.1
            | inr now ↦ absurd (omega (arith, part.0, now.0, same, ap length a))
          ]
          | inr whole ↦ elim e [
            | inl now ↦ absurd (omega (arith, whole.0, now.0, same, ap length a))
            | inr now ↦ rw (now.1, sym b) whole.1
          ]
        ],
        rw same refl,
      )

  pub pop_is_one : (1 ≤ at') × (at' ≤ bs'.turn) → AreOneRing ls' bs' at'
  pop_is_one ahead = rw e' (record {
    is_cut = (taken-cut ls.items bs.near bs.far refl refl keeps.is_cut n).0;
    fits = omega (arith, ap length taken-waits.0, length-drop len (waiting bs), keeps.fits, taken-waits.1);
    same = keeps.same ∙ sym taken-waits.1;
    longest = taken-waits.2 ∙ keeps.longest;
    ahead = ahead;
    capacity = rw taken-waits.1 keeps.capacity;
  })

  pub shown-pop : shown ls' bs' ≡ pop (shown ls bs)
  shown-pop = rw (e', taken-waits.0, taken-waits.1) (ap (λ (ms : List (List ℕ)). ring_of ms bs.turn) (taken-cut ls.items bs.near bs.far refl refl keeps.is_cut n).1)
