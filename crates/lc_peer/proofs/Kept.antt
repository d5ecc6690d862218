-- How little is kept of a stream whose rings are known.
use Rattle.std.proofs.Common.{◌≡◌, ℕ, ◌+◌, ◌<◌, ◌≤◌, Bool, true, false, List, [], ◌∷◌, length, get_or, take, drop, Option, Some, None, zero, suc, refl, sym, ap, subst, ◌∙◌, arith, inl, inr}
use Rattle.std.specs.Prelude.{◌⊎◌, ◌==◌, slice_get, IsSomeAnd, All, IfNone}
use Rattle.std.proofs.lemmas.Bool.Decides.{nat_tests}
use Rattle.std.proofs.lemmas.Bool.{cases_lt, true≢false}
use Rattle.std.proofs.lemmas.List.{length-append, length-take-le, nil_from_length, take-append-drop, take_all}
use Rattle.lc_frame.specs.declared.version.Version.{Version}
use Rattle.lc_frame.specs.declared.version.Version.TheVariants.{One, Two}
use Rattle.lc_frame.specs.declared.channel.Channel.{Channel}
use Rattle.lc_frame.specs.declared.frame.Frame.{Frame}
use Rattle.lc_frame.specs.declared.frame.Frame.TheVariants as frames
use Rattle.lc_frame.specs.declared.kind.Kind.TheVariants.{Send}
use Rattle.lc_frame.specs.Channel.{number_of}
use Rattle.lc_frame.specs.Version.{version_of}
use Rattle.lc_frame.specs.Kind.{header_len}
use Rattle.lc_frame.specs.Encoding.{header, encoding}
use Rattle.lc_frame.specs.Stored.{Stored, stored_in, fed, before, front, nothing_stored, opened, opened_as, IsSettled, IsValidIn, encoding_in, IsUndecided, IsDecided}
use Rattle.lc_frame.specs.Progress.{Feeds}
use Rattle.lc_frame.specs.declared.fill.Filled.{Filled}
use Rattle.lc_frame.specs.declared.fill.Filled.TheVariants.{Few, Failed, Took}
use Rattle.lc_frame.specs.Fill.{FilledAs, LacksMore}
use Rattle.lc_frame.specs.Frame.{kind_of, IsValid}
use Rattle.lc_frame.specs.Begun.{BeginsSend, BeginsSendIn, BeginsAtMost, HasBegun, HasBegunAtMost}
use Rattle.lc_frame.proofs.Bytes.{IsBytes, IsBytes-take}
use Rattle.lc_frame.proofs.Fronts.{length-header, length-encoding, bytes_from}
use Rattle.lc_frame.proofs.Stored.{fed_fed, fed_nothing, fed_settled, fed_short, settled_none, has_fault_goes_on}
use Rattle.lc_frame.proofs.Openings.{undecided_of, undecided_not}
use Rattle.lc_frame.proofs.Sends.{begins_on, begun_open, has_begun_on, stored_few}
use Rattle.lc_book.specs.declared.fault.Violation.{Violation}
use Rattle.lc_peer.specs.declared.delivery.Stop.TheVariants.{Fault, Violated}
use Rattle.lc_peer.specs.declared.delivery.Step.{Step}
use Rattle.lc_peer.specs.declared.delivery.Step.TheVariants.{Arrived, Open, Stopped}
use Rattle.lc_peer.specs.Longer.{IsLonger, FitsAny, FitsRings, FitsGreatest, KeepsFew}
use Rattle.lc_peer.specs.declared.outgrown.Outgrown.{Outgrown}
use Rattle.lc_peer.specs.Rings.{KeepsHead, GoesFrom, IsHeaded, IsMissing, IsReady, StartsSend}
use Rattle.lc_peer.proofs.Feeds.{shortest_fault}
use Rattle.lc_peer.specs.Steps.{Steps, FrameArrives}
use Rattle.lc_peer.proofs.Deliveries.{fed_bytes}
use Rattle.lc_peer.proofs.Begun.{begun_back, part_open, begun_once, has_begun_no_fault, greeting_few, greeted_few, some_long, some_version}

-- ---- words

same_head : {v w : Version} → Some v ≡ Some w → header_len v Send ≡ header_len w Send
same_head e = ap (λ (u : Version). header_len u Send) (some_version e)

send_head : (v : Version) → (3 ≤ header_len v Send) × (header_len v Send ≤ 5)
send_head One = (omega arith, omega arith)
send_head Two = (omega arith, omega arith)

-- a message that fits its ring is no longer than the greatest
shorter : (o : Option ℕ) (len most : ℕ) → ¬ IsSomeAnd o (λ ring. ring < len) → IsSomeAnd o (λ ring. ring ≤ most) → len ≤ most
shorter None len most fits within = absurd within
shorter (Some ring) len most fits within =
    elim (cases_lt ring len) [
      | inl longer ↦ absurd (fits longer)
      | inr le ↦ omega (arith, le, within)
    ]

short_of : (rings : List ℕ) (h : Stored) (most : ℕ) → FitsRings rings h → ((c : Channel) → IsSomeAnd (slice_get rings (number_of c)) (λ ring. ring ≤ most)) → (c : Channel) (len : ℕ) → HasBegun c len h → len ≤ most
short_of rings h most fits within c len b = shorter (slice_get rings (number_of c)) len most (fits c len b) (within c)

-- nothing stands
pub few_open : (rings : List ℕ) (h : Stored) → IsBytes h.bytes → IsSettled h → IsUndecided h → FitsRings rings h → FitsGreatest rings (length h.bytes)
few_open rings h bytes settled u fits = λ most within. let few = stored_few most h bytes settled u (short_of rings h most fits within) in omega (arith, few)

-- as few as fit into any header
pub few_bytes : (rings : List ℕ) (n : ℕ) → n ≤ 9 → FitsGreatest rings n
few_bytes rings n le = λ most within. omega (arith, le)

fits_front : (rings : List ℕ) (h h' : Stored) (more : List ℕ) → h' ≡ fed h more → FitsRings rings h' → FitsRings rings h
fits_front rings h h' more is fits = λ c len b. fits c len (subst (HasBegun c len) (sym is) (has_begun_on c len h more b))

-- where no byte is held, nothing is begun
none_begun : (o : Option Version) (bytes : List ℕ) (c : Channel) (len : ℕ) → bytes ≡ [] → ¬ BeginsSendIn o c len bytes
none_begun None bytes c len none b = b
none_begun (Some v) bytes c len none b = omega (arith, ap length (sym none ∙ b.is), length-append (header v Send c len) b.rest, length-header v Send c len)

pub fits_nothing : (rings : List ℕ) (h : Stored) → h.bytes ≡ [] → FitsRings rings h
fits_nothing rings h none = λ c len b longer. none_begun h.version h.bytes c len none b

pub nothing_kept : (rings : List ℕ) (h : Stored) → h.bytes ≡ [] → KeepsFew rings h
nothing_kept rings h none = record { fits = fits_nothing rings h none; few = few_bytes rings (length h.bytes) (omega (arith, ap length none)) }

-- ---- more of what was begun

-- with its header there, more bytes begin no other
fits_on_as : (rings : List ℕ) (o : Option Version) (bytes more : List ℕ) → (v : Version) → o ≡ Some v → header_len v Send ≤ length bytes → FitsRings rings (record { version = o; bytes = bytes }) → FitsRings rings (fed (record { version = o; bytes = bytes }) more)
fits_on_as rings None bytes more v e long fits = absurd cc
fits_on_as rings (Some w) bytes more v e long fits = λ c len b. fits c len (begun_back w c len bytes more b (omega (arith, long, same_head e)))

pub fits_on : (rings : List ℕ) (h : Stored) (more : List ℕ) (v : Version) → h.version ≡ Some v → header_len v Send ≤ length h.bytes → FitsRings rings h → FitsRings rings (fed h more)
fits_on rings h more v e long fits = fits_on_as rings h.version h.bytes more v e long fits

-- ---- no longer Send is begun where a delivery goes on

pub fits_none : (rings : List ℕ) (h : Stored) → rings ≡ [] → FitsRings rings h
fits_none rings h none = λ c len b longer. no_ring (number_of c) len (subst (λ (ns : List ℕ). IsSomeAnd (slice_get ns (number_of c)) (λ ring. ring < len)) none longer)
  where
    no_ring : (n len : ℕ) → IsSomeAnd (slice_get [] n) (λ ring. ring < len) → ⊥
    no_ring n len h = h

version_begun : (o : Option Version) (bytes : List ℕ) (c : Channel) (len : ℕ) → o ≡ None → ¬ BeginsSendIn o c len bytes
version_begun None bytes c len e b = b
version_begun (Some v) bytes c len e b = absurd cc

-- where a frame or a fault stands and no version is known, a fault does
decided_none : (rings : List ℕ) (o : Option Version) (bytes rest : List ℕ) → o ≡ None → IsDecided (record { version = o; bytes = bytes }) → FitsRings rings (fed (record { version = o; bytes = bytes }) rest)
decided_none rings None bytes rest e (inl frame) = absurd frame.1
decided_none rings None bytes rest e (inr fault) = λ c len b longer. has_begun_no_fault c len (fed (record { version = None; bytes = bytes }) rest) fault.0 b (has_fault_goes_on fault.0 (record { version = None; bytes = bytes }) rest fault.1)
decided_none rings (Some v) bytes rest e d = absurd cc

-- where nothing follows, what is held stays
rest_cases : (rest : List ℕ) → (rest ≡ []) ⊎ (0 < length rest)
rest_cases [] = inl refl
rest_cases (b ∷ rest) = inr (omega arith)

fed_none : (h : Stored) (rest : List ℕ) → IsSettled h → rest ≡ [] → fed h rest ≡ h
fed_none h rest settled none = ap (fed h) none ∙ fed_nothing h settled

-- the version is not known yet
pub fits_unknown : (rings : List ℕ) (h : Stored) (rest : List ℕ) → IsSettled h → h.version ≡ None → 0 < length rings → GoesFrom rings h rest → FitsRings rings (fed h rest)
fits_unknown rings h rest settled none named g =
    elim (rest_cases rest) [
      | inl empty ↦ λ c len b longer. version_begun h.version h.bytes c len none (subst (HasBegun c len) (fed_none h rest settled empty) b)
      | inr some ↦
          elim (g.headed named some) [
            | inl decided ↦ decided_none rings h.version h.bytes rest none decided
            | inr headed ↦ absurd (none_some (sym none ∙ headed.known))
          ]
    ]
  where
    none_some : {v : Version} → None ≡ Some v → ⊥
    none_some e = cc

-- nothing is held, and no Send is begun
pub fits_unbegun : (rings : List ℕ) (h : Stored) (rest : List ℕ) (v : Version) → h.version ≡ Some v → length h.bytes ≡ 0 → ((c : Channel) (len : ℕ) → ¬ BeginsSend v c len rest) → FitsRings rings (fed h rest)
fits_unbegun rings h rest v known empty none = λ c len b longer. none c len (subst (HasBegun c len) (ap (λ (x : Stored). fed x rest) (is h v known (nil_from_length h.bytes empty))) b)
  where
    is : (h : Stored) (v : Version) → h.version ≡ Some v → h.bytes ≡ [] → h ≡ stored_in v []
    is h v e n = λ i. record { version = e i; bytes = n i }

begun_undecided : (o : Option Version) (c : Channel) (len : ℕ) (bytes : List ℕ) (v : Version) → o ≡ Some v → BeginsSendIn o c len bytes → length bytes ≡ header_len v Send → IsUndecided (record { version = o; bytes = bytes })
begun_undecided None c len bytes v e b all = absurd b
begun_undecided (Some w) c len bytes v e b all = undecided_of w bytes (begun_open w c len bytes b (omega (arith, all, same_head e, some_long w len b.in_range)))

-- a header's bytes are held, and no Send is begun
pub fits_headed : (rings : List ℕ) (h : Stored) (rest : List ℕ) (v : Version) → h.version ≡ Some v → length h.bytes ≡ header_len v Send → (IsUndecided h → (c : Channel) (len : ℕ) → ¬ HasBegun c len h) → FitsRings rings (fed h rest)
fits_headed rings h rest v known all none = fits_on rings h rest v known (omega (arith, all)) (λ c len b longer. none (begun_undecided h.version c len h.bytes v known b all) c len b)

part_undecided : (o : Option Version) (c : Channel) (len : ℕ) (bytes more : List ℕ) (v : Version) → o ≡ Some v → HasBegun c len (fed (record { version = o; bytes = bytes }) more) → length bytes < header_len v Send → IsUndecided (record { version = o; bytes = bytes })
part_undecided None c len bytes more v e b few = absurd cc
part_undecided (Some w) c len bytes more v e b few = undecided_of w bytes (part_open w c len bytes more b (omega (arith, few, same_head e)))

-- part of a header is held, or more than one
pub fits_other : (rings : List ℕ) (h : Stored) (rest : List ℕ) (v : Version) → IsSettled h → h.version ≡ Some v → 0 < length h.bytes → ¬ (length h.bytes ≡ header_len v Send) → 0 < length rings → GoesFrom rings h rest → FitsRings rings (fed h rest)
fits_other rings h rest v settled known some other named g =
    elim (cases_lt (length h.bytes) (header_len v Send)) [
      | inl few ↦ λ c len b longer.
          let undecided = part_undecided h.version c len h.bytes rest v known b few in
          elim (rest_cases rest) [
            | inl empty ↦ short h.version c len h.bytes (subst (HasBegun c len) (fed_none h rest settled empty) b) known few
            | inr more ↦
                elim (g.headed named more) [
                  | inl decided ↦ undecided_not h undecided decided
                  | inr headed ↦ omega (arith, few, headed.whole some, same_head (sym known ∙ headed.known))
                ]
          ]
      | inr long ↦ fits_on rings h rest v known long (g.kept.fits v known (omega (arith, long, other)))
    ]
  where
    short : (o : Option Version) (c : Channel) (len : ℕ) (bytes : List ℕ) → BeginsSendIn o c len bytes → o ≡ Some v → length bytes < header_len v Send → ⊥
    short None c len bytes b e few = b
    short (Some w) c len bytes b e few = omega (arith, few, same_head e, ap length b.is, length-append (header w Send c len) b.rest, length-header w Send c len)

-- the Send that is begun is no longer than its ring
begun_same : (o : Option Version) (c d : Channel) (m n : ℕ) (bytes : List ℕ) → BeginsSendIn o c m bytes → BeginsSendIn o d n bytes → (c ≡ d) × (m ≡ n)
begun_same None c d m n bytes b e = absurd b
begun_same (Some v) c d m n bytes b e = begun_once v c d m n bytes b e

pub fits_begun : (rings : List ℕ) (h : Stored) (c : Channel) (len : ℕ) → HasBegun c len h → ¬ IsLonger rings c len → FitsRings rings h
fits_begun rings h c len b fits = λ d n e longer.
    let same = begun_same h.version c d len n h.bytes b e in
    fits (subst (λ (x : Channel). IsLonger rings x len) (sym same.0) (subst (λ (m : ℕ). IsLonger rings d m) (sym same.1) longer))

-- with the bytes of its header, and whatever follows, it is begun
pub starts_begun : (h : Stored) (rest : List ℕ) (o : Outgrown) → StartsSend h rest o → HasBegun o.channel o.len (fed h rest)
starts_begun h rest o s =
    let later : fed (stored_in o.version (header o.version Send o.channel o.len)) (drop o.behind rest) ≡ fed h rest =
    ap (λ (x : Stored). fed x (drop o.behind rest)) (sym s.is) ∙ fed_fed h (take o.behind rest) (drop o.behind rest) ∙ ap (fed h) (take-append-drop o.behind rest) in
    subst (HasBegun o.channel o.len) later (record { in_range = s.in_range; rest = drop o.behind rest; is = refl })

-- one that fits its ring, or of whose channel no ring is named, is no longer
past_rings : (rings : List ℕ) (n len : ℕ) → length rings ≤ n → ¬ IsSomeAnd (slice_get rings n) (λ ring. ring < len)
past_rings [] n len le longer = longer
past_rings (r ∷ rings) zero len le longer = absurd (omega (arith, le))
past_rings (r ∷ rings) (suc n) len le longer = past_rings rings n len (omega (arith, le)) longer

ring_here : (rings : List ℕ) (n len d : ℕ) → IsSomeAnd (slice_get rings n) (λ ring. ring < len) → get_or rings n d < len
ring_here [] n len d longer = absurd longer
ring_here (r ∷ rings) zero len d longer = longer
ring_here (r ∷ rings) (suc n) len d longer = ring_here rings n len d longer

pub fits_past : (rings : List ℕ) (c : Channel) (len index : ℕ) → index ≡ number_of c → length rings ≤ index → ¬ IsLonger rings c len
fits_past rings c len index e le = past_rings rings (number_of c) len (omega (arith, le, e))

pub fits_ring : (rings : List ℕ) (c : Channel) (len index ring : ℕ) → index ≡ number_of c → ring ≡ get_or rings index ring → len ≤ ring → ¬ IsLonger rings c len
fits_ring rings c len index ring e is le longer =
    let here = ring_here rings (number_of c) len ring longer in
    omega (arith, here, is, le, ap (λ (n : ℕ). get_or rings n ring) e)

pub some_rings : (rings : List ℕ) (b : Bool) → b ≡ (length rings == 0) → b ≡ false → 0 < length rings
some_rings [] b e f = absurd (true≢false (sym e ∙ f))
some_rings (r ∷ rings) b e f = omega arith

-- ---- fronts of what is settled

version_in : (o : Option Version) (bytes : List ℕ) → (opened_as o bytes).version ≡ o
version_in None bytes = refl
version_in (Some v) bytes = refl

version_stays : (o : Option Version) (bytes more : List ℕ) (v : Version) → o ≡ Some v → (fed (record { version = o; bytes = bytes }) more).version ≡ Some v
version_stays None bytes more v e = absurd cc
version_stays (Some w) bytes more v e = e

front_none : (k : ℕ) (bytes : List ℕ) → IsSettled (record { version = None; bytes = bytes }) → (o : Option Version) → version_of (take k bytes) ≡ o → version_of (take k bytes) ≡ None
front_none k bytes settled None e = e
front_none k bytes settled (Some v) e =
    let first : (opened (take k bytes)).version ≡ Some v = version_in (version_of (take k bytes)) (take k bytes) ∙ e in
    let all : (fed (opened (take k bytes)) (drop k bytes)).version ≡ Some v = version_stays (opened (take k bytes)).version (opened (take k bytes)).bytes (drop k bytes) v first in
    let same : fed (opened (take k bytes)) (drop k bytes) ≡ opened bytes = fed_fed nothing_stored (take k bytes) (drop k bytes) ∙ ap opened (take-append-drop k bytes) in
    absurd (none_some (ap (λ (h : Stored). h.version) (settled ∙ sym same) ∙ all))
  where
    none_some : None ≡ Some v → ⊥
    none_some e = cc

settled_front : (o : Option Version) (k : ℕ) (bytes : List ℕ) → IsSettled (record { version = o; bytes = bytes }) → IsSettled (record { version = o; bytes = take k bytes })
settled_front None k bytes settled = settled_none (take k bytes) (front_none k bytes settled (version_of (take k bytes)) refl)
settled_front (Some v) k bytes settled = refl

-- ---- a step

module _ (rings : List ℕ) where
  -- the longest frame of what is held
  frame_few : (o : Option Version) (f : Frame) (bytes : List ℕ) → IsValidIn o f → bytes ≡ encoding_in o f → FitsRings rings (record { version = o; bytes = bytes }) → FitsGreatest rings (length bytes)
  frame_few None f bytes valid is fits = absurd valid
  frame_few (Some v) f bytes valid is fits = λ most within. omega (arith, ap length is, of_frame f valid most (λ c body e. short_of rings (stored_in v bytes) most fits within c (length body) (begins c body e)))
    where
      begins : (c : Channel) (body : List ℕ) → f ≡ frames.Send c body → BeginsSend v c (length body) bytes
      begins c body e = record {
        in_range = (subst (λ (g : Frame). IsValidIn (Some v) g) e valid).1;
        rest = body;
        is = is ∙ ap (encoding v) e;
      }

      of_frame : (g : Frame) → IsValidIn (Some v) g → (most : ℕ) → ((c : Channel) (body : List ℕ) → g ≡ frames.Send c body → length body ≤ most) → length (encoding v g) ≤ 9 + most
      of_frame (frames.Send c body) ok most short = omega (arith, length-encoding v (frames.Send c body), (send_head v).1, short c body refl)
      of_frame (frames.Issue c n) ok most short = omega (arith, length-encoding v (frames.Issue c n))
      of_frame (frames.Absolve c n) ok most short = omega (arith, length-encoding v (frames.Absolve c n))
      of_frame (frames.Plead c n) ok most short = omega (arith, length-encoding v (frames.Plead c n))
      of_frame (frames.LimitSending c n) ok most short = omega (arith, length-encoding v (frames.LimitSending c n))
      of_frame (frames.LimitReceiving c n) ok most short = omega (arith, length-encoding v (frames.LimitReceiving c n))
      of_frame (frames.Finish c) ok most short = omega (arith, length-encoding v (frames.Finish c))

  -- as few bytes as it takes that a fault stands
  pub last_few : (h : Stored) (n : ℕ) → IsBytes h.bytes → IsSettled h → length h.bytes ≡ n → ((k : ℕ) → k < length h.bytes → IsUndecided (front k h)) → FitsRings rings h → FitsGreatest rings n
  last_few h zero bytes settled e shortest fits = few_bytes rings zero (omega arith)
  last_few h (suc k) bytes settled e shortest fits = λ most within.
      let few = stored_few most (front k h) (IsBytes-take k h.bytes bytes) (settled_front h.version k h.bytes settled) (shortest k (omega (arith, e))) (short_of rings (front k h) most (fits_take h.version k h.bytes fits) within) in
      omega (arith, few, length-take-le k h.bytes (omega (arith, e)), e)
    where
      fits_take : (o : Option Version) (k : ℕ) (bytes : List ℕ) → FitsRings rings (record { version = o; bytes = bytes }) → FitsRings rings (record { version = o; bytes = take k bytes })
      fits_take None k bytes fits = λ c len b longer. b
      fits_take (Some v) k bytes fits = λ c len b longer. fits c len (subst (BeginsSend v c len) (take-append-drop k bytes) (begins_on v c len (take k bytes) (drop k bytes) b)) longer

-- a step keeps as little
module _ (rings : List ℕ) (h1 : Stored) (rest : List ℕ) (fits : FitsRings rings (fed h1 rest)) (few : FitsGreatest rings (length h1.bytes)) (settled : IsSettled h1) (bytes1 : All (λ b. b < 256) h1.bytes) (bytes : IsBytes rest) where
  part_fits : (h2 : Stored) (count : ℕ) → h2 ≡ fed h1 (take count rest) → FitsRings rings h2
  part_fits h2 count is = fits_front rings h2 (fed h1 rest) (drop count rest) (sym (ap (λ (h : Stored). fed h (drop count rest)) is ∙ fed_fed h1 (take count rest) (drop count rest) ∙ ap (fed h1) (take-append-drop count rest))) fits

  part_bytes : (h2 : Stored) (count : ℕ) → h2 ≡ fed h1 (take count rest) → IsBytes h2.bytes
  part_bytes h2 count is = subst (λ (h : Stored). IsBytes h.bytes) (sym is) (fed_bytes h1 (take count rest) bytes1 (IsBytes-take count rest bytes))

  part_settled : (h2 : Stored) (count : ℕ) → h2 ≡ fed h1 (take count rest) → IsSettled h2
  part_settled h2 count is = subst IsSettled (sym is) (fed_settled h1 (take count rest))

  fault_few : (h2 : Stored) (count : ℕ) → h2 ≡ fed h1 (take count rest) → (0 < count → (k : ℕ) → k < length h2.bytes → IsUndecided (front k h2)) → FitsGreatest rings (length h2.bytes)
  fault_few h2 zero is shortest = subst (λ (h : Stored). FitsGreatest rings (length h.bytes)) (sym (is ∙ fed_nothing h1 settled)) few
  fault_few h2 (suc n) is shortest = last_few rings h2 (length h2.bytes) (part_bytes h2 (suc n) is) (part_settled h2 (suc n) is) refl (shortest (omega arith)) (part_fits h2 (suc n) is)

  pub step_keeps : {T : Type 0} (arrives : T → Frame → T → Type 0) (violates : Violation → T → Frame → T → Type 0) (step : Step) (p : T) (p' : T) (h2 : Stored) → Steps arrives violates step p h1 rest p' h2 → KeepsFew rings h2
  step_keeps arrives violates (Arrived count) p p' h2 a = record { fits = fits_nothing rings h2 a.cleared; few = few_bytes rings (length h2.bytes) (omega (arith, ap length a.cleared)) }
  step_keeps arrives violates (Open count) p p' h2 o =
      let is : h2 ≡ fed h1 (take count rest) = o.grown ∙ ap (fed h1) (sym (take_all count rest (omega (arith, o.all)))) in
      let short = part_fits h2 count is in
      record { fits = short; few = few_open rings h2 (part_bytes h2 count is) (part_settled h2 count is) o.undecided short }
  step_keeps arrives violates (Stopped (Violated v) count) p p' h2 o =
      let short = part_fits h2 count o.grown in
      record { fits = short; few = frame_few rings h2.version o.frame h2.bytes o.valid o.whole short }
  step_keeps arrives violates (Stopped (Fault fault) count) p p' h2 o = record { fits = part_fits h2 count o.grown; few = fault_few h2 count o.grown o.shortest }

pub is_emptied : (h : Stored) (v : Version) → h.version ≡ Some v → h.bytes ≡ [] → h ≡ stored_in v []
is_emptied h v e n = λ i. record { version = e i; bytes = n i }

-- a frame that arrived leaves nothing
pub arrived_between : {T : Type 0} (arrives : T → Frame → T → Type 0) (p : T) (h1 : Stored) (rest : List ℕ) (p' : T) (h2 : Stored) (count : ℕ) → FrameArrives arrives p h1 rest p' h2 count → (v : Version) × (h2 ≡ stored_in v [])
arrived_between arrives p h1 rest p' h2 count a = emptied h2.version a.frame h2.bytes a.valid a.cleared
  where
    emptied : (o : Option Version) (f : Frame) (bytes : List ℕ) → IsValidIn o f → bytes ≡ [] → (v : Version) × (record { version = o; bytes = bytes } ≡ stored_in v [])
    emptied None f bytes valid none = absurd valid
    emptied (Some v) f bytes valid none = (v, ap (stored_in v) none)

-- and so does one that arrived between two frames, in the same version
pub arrived_in : {T : Type 0} (arrives : T → Frame → T → Type 0) (v : Version) (p : T) (h1 : Stored) (rest : List ℕ) (p' : T) (h2 : Stored) (count : ℕ) → h1 ≡ stored_in v [] → FrameArrives arrives p h1 rest p' h2 count → h2 ≡ stored_in v []
arrived_in arrives v p h1 rest p' h2 count e a =
    let known : Some v ≡ h2.version = ap (λ (h : Stored). h.version) (subst (λ (h : Stored). fed h (take count rest) ≡ before (a.frame ∷ []) h2) e a.whole) in
    is_emptied h2 v (sym known) a.cleared

-- a step between two frames keeps as little, where no longer Send is begun in the piece
pub step_between : (rings : List ℕ) (v : Version) (h1 : Stored) (piece : List ℕ) → h1 ≡ stored_in v [] → FitsRings rings (stored_in v piece) → IsBytes piece → {T : Type 0} (arrives : T → Frame → T → Type 0) (violates : Violation → T → Frame → T → Type 0) (step : Step) (p p' : T) (h2 : Stored) → Steps arrives violates step p h1 piece p' h2 → KeepsFew rings h2
step_between rings v h1 piece e fits bytes arrives violates step p p' h2 steps =
    step_keeps rings (stored_in v []) piece fits (few_bytes rings 0 (omega arith)) refl (λ k d less. absurd (omega (arith, less))) bytes arrives violates step p p' h2 (subst (λ (h : Stored). Steps arrives violates step p h piece p' h2) e steps)

-- ---- what leads up to a message

pub keeps_head : (rings : List ℕ) (h : Stored) → KeepsFew rings h → KeepsHead rings h
keeps_head rings h k = record { fits = λ v known long. k.fits; few = k.few }

pub headed_of : (h : Stored) (n : ℕ) → IsMissing h.version (length h.bytes) n → n ≡ 0 → IsHeaded h
headed_of h n m none = in_version h.version h.bytes n m none
  where
    in_version : (o : Option Version) (bytes : List ℕ) (n : ℕ) → IsMissing o (length bytes) n → n ≡ 0 → IsHeaded (record { version = o; bytes = bytes })
    in_version None [] n m none = absurd (omega (arith, m.0 refl, none))
    in_version None (b ∷ bytes) n m none = absurd (omega (arith, (m.1 (omega arith)).0, none))
    in_version (Some v) bytes n m none = record { version = v; known = refl; whole = λ some. m.2 none some }

-- with no more than is missing no byte of a message is held
lead_short : (o : Option Version) (bytes more : List ℕ) (n : ℕ) → IsSettled (record { version = o; bytes = bytes }) → IsUndecided (record { version = o; bytes = bytes }) → IsMissing o (length bytes) n → length more ≤ n → 0 < length more
    → (length (fed (record { version = o; bytes = bytes }) more).bytes ≤ 5) × ((v : Version) → (fed (record { version = o; bytes = bytes }) more).version ≡ Some v → length (fed (record { version = o; bytes = bytes }) more).bytes ≤ header_len v Send)
lead_short None [] more n settled u m less some =
    let few = fed_short (record { version = None; bytes = [] }) more in
    (omega (arith, few, m.0 refl, less), λ v is. omega (arith, few, m.0 refl, less, (send_head v).0))
lead_short None (b ∷ bytes) more n settled u m less some =
    let all = (m.1 (omega arith)).2 (greeting_few (b ∷ bytes) settled u) in
    (omega (arith, fed_short (record { version = None; bytes = b ∷ bytes }) more, all, less), λ v is. omega (arith, greeted_few (b ∷ bytes) more settled (omega arith) (omega (arith, all, less)) v is))
lead_short (Some w) bytes more n settled u m less some =
    let all = m.1 (omega (arith, some, less)) in
    let size = length-append bytes more in
    (omega (arith, size, all, less, (send_head w).1), λ v is. omega (arith, size, all, less, same_head is))

lead_grown : (rings : List ℕ) (h1 h2 : Stored) (part : List ℕ) (count n : ℕ) → IsSettled h1 → IsMissing h1.version (length h1.bytes) n → length part ≤ n → Feeds h1 h2 part count → KeepsHead rings h1 → (k : ℕ) → count ≡ k → KeepsHead rings h2
lead_grown rings h1 h2 part count n settled m less f kept zero none =
    let still : h2 ≡ h1 = f.held ∙ ap (λ (i : ℕ). fed h1 (take i part)) none ∙ fed_nothing h1 settled in
    subst (KeepsHead rings) (sym still) kept
lead_grown rings h1 h2 part count n settled m less f kept (suc k) some =
    let more = take count part in
    let size = length-take-le count part f.count in
    let undecided : IsUndecided h1 = subst IsUndecided (fed_nothing h1 settled) (f.shortest 0 (omega (arith, some))) in
    let short = lead_short h1.version h1.bytes more n settled undecided m (omega (arith, size, f.count, less)) (omega (arith, size, some)) in
    subst (KeepsHead rings) (sym f.held) (record { fits = λ v known long. absurd (omega (arith, long, short.1 v known)); few = few_bytes rings (length (fed h1 more).bytes) (omega (arith, short.0)) })

pub lead_keeps : (rings : List ℕ) (h1 h2 : Stored) (part : List ℕ) (count n : ℕ) → IsSettled h1 → IsMissing h1.version (length h1.bytes) n → length part ≤ n → Feeds h1 h2 part count → KeepsHead rings h1 → KeepsHead rings h2
lead_keeps rings h1 h2 part count n settled m less f kept = lead_grown rings h1 h2 part count n settled m less f kept count refl

-- ---- how much is missing

pub missing_none : (o : Option Version) (stored n : ℕ) → o ≡ None → (stored ≡ 0 → n ≡ 3) → (0 < stored → (0 < n) × (n ≤ 4) × (stored < 4 → n + stored ≡ 4)) → IsMissing o stored n
missing_none None stored n e first more = (first, more)
missing_none (Some v) stored n e first more = absurd cc

pub missing_some : (o : Option Version) (v : Version) (stored n : ℕ) → o ≡ Some v → (0 < n → n + stored ≡ header_len v Send) → (n ≡ 0 → 0 < stored → header_len v Send ≤ stored) → n ≤ header_len v Send → IsMissing o stored n
missing_some None v stored n e more none few = absurd cc
missing_some (Some w) v stored n e more none few = (omega (arith, few, (send_head v).1), (λ some. omega (arith, more some, same_head e)), λ nothing some. omega (arith, none nothing some, same_head e))

-- ---- bytes that come to where they are held

pub filled_keeps : {R : Type 0} (fills : R → Option ℕ → List ℕ → R → Type 0) (filled : Filled) (before after : R) (old new : Stored) (v : Version) → old.version ≡ Some v → header_len v Send ≤ length old.bytes → IsSettled new → All (λ b. b < 256) new.bytes → FilledAs fills filled before after old new
    → (rings : List ℕ) → KeepsFew rings old → KeepsFew rings new
filled_keeps fills Few before after old new v known long settled bytes f rings kept = subst (KeepsFew rings) (sym f.0) kept
filled_keeps fills Failed before after old new v known long settled bytes f rings kept = subst (KeepsFew rings) (sym f.same) kept
filled_keeps fills (Took n) before after old new v known long settled bytes f rings kept =
    let fits : FitsRings rings new = subst (FitsRings rings) (sym f.grown) (fits_on rings old (take n f.memory) v known long kept.fits) in
    record { fits = fits; few = few_open rings new (bytes_from new.bytes bytes) settled f.undecided fits }

-- ---- where a delivery goes on

-- what fits any ring
pub any_fits : (rings : List ℕ) (most : ℕ) (v : Version) (bytes : List ℕ) → FitsAny most rings → BeginsAtMost v most bytes → FitsRings rings (stored_in v bytes)
any_fits rings most v bytes any within = λ c len b longer. any v c len (within c len b) longer

held_any_as : (rings : List ℕ) (most : ℕ) (o : Option Version) (bytes : List ℕ) → FitsAny most rings → HasBegunAtMost most (record { version = o; bytes = bytes }) → FitsRings rings (record { version = o; bytes = bytes })
held_any_as rings most None bytes any within = λ c len b longer. b
held_any_as rings most (Some v) bytes any within = any_fits rings most v bytes any within

held_any : (rings : List ℕ) (most : ℕ) (h : Stored) → FitsAny most rings → HasBegunAtMost most h → FitsRings rings h
held_any rings most h any within = held_any_as rings most h.version h.bytes any within

-- by how many bytes are held, the version being known
pub ready_known : (rings : List ℕ) (h : Stored) (rest : List ℕ) (v : Version) → IsSettled h → h.version ≡ Some v → 0 < length rings → GoesFrom rings h rest → (length h.bytes ≡ header_len v Send → FitsRings rings (fed h rest)) → IsReady rings h rest
ready_known rings h rest v settled known named g headed = record { few = g.kept.few; fits = by (length h.bytes) refl }
  where
    by : (n : ℕ) → length h.bytes ≡ n → ((v : Version) × (h ≡ stored_in v [])) ⊎ FitsRings rings (fed h rest)
    by zero e = inl (v, is_emptied h v known (nil_from_length h.bytes e))
    by (suc n) e =
        elim (cases_lt (length h.bytes) (header_len v Send)) [
          | inl few ↦ inr (fits_other rings h rest v settled known (omega (arith, e)) (λ same. omega (arith, few, same)) named g)
          | inr long ↦
              elim (cases_lt (header_len v Send) (length h.bytes)) [
                | inl more ↦ inr (fits_other rings h rest v settled known (omega (arith, e)) (λ same. omega (arith, more, same)) named g)
                | inr all ↦ inr (headed (omega (arith, long, all)))
              ]
        ]

pub ready_unknown : (rings : List ℕ) (h : Stored) (rest : List ℕ) → IsSettled h → h.version ≡ None → 0 < length rings → GoesFrom rings h rest → IsReady rings h rest
ready_unknown rings h rest settled none named g = record { few = g.kept.few; fits = inr (fits_unknown rings h rest settled none named g) }

-- few bytes were taken behind few, after which no long Send is begun
module _ (rings : List ℕ) (most : ℕ) (old new : Stored) (piece : List ℕ) (count : ℕ) (feeds : Feeds old new piece count) (within : HasBegunAtMost most new) (settled : IsSettled old) (settled_new : IsSettled new) (bytes : All (λ b. b < 256) new.bytes) (any : FitsAny most rings) (kept : KeepsFew rings old) where
  few_taken : (n : ℕ) → count ≡ n → FitsGreatest rings (length new.bytes)
  few_taken zero none =
      let still : new ≡ old = feeds.held ∙ ap (λ (i : ℕ). fed old (take i piece)) none ∙ fed_nothing old settled in
      subst (λ (h : Stored). FitsGreatest rings (length h.bytes)) (sym still) kept.few
  few_taken (suc n) some = last_few rings new (length new.bytes) (bytes_from new.bytes bytes) settled_new refl (shortest_fault old new piece count feeds (omega (arith, some))) (held_any rings most new any within)

  pub few_kept : KeepsFew rings new
  few_kept = record { fits = held_any rings most new any within; few = few_taken count refl }

-- nothing is missing of the header that is held
pub lead_none : (rings : List ℕ) (h : Stored) (rest : List ℕ) (v : Version) (stored head : ℕ) → h.version ≡ Some v → stored ≡ length h.bytes → head ≡ header_len v Send → (0 < stored → head ≤ stored) → KeepsFew rings h → IsReady rings h rest
lead_none rings h rest v stored head known e is long kept = record { few = kept.few; fits = by (length h.bytes) refl }
  where
    by : (n : ℕ) → length h.bytes ≡ n → ((v : Version) × (h ≡ stored_in v [])) ⊎ FitsRings rings (fed h rest)
    by zero none = inl (v, is_emptied h v known (nil_from_length h.bytes none))
    by (suc n) some = inr (fits_on rings h rest v known (omega (arith, long (omega (arith, some, e)), e, is)) kept.fits)

pub no_rings : (rings : List ℕ) (b : Bool) → b ≡ (length rings == 0) → b ≡ true → rings ≡ []
no_rings [] b e t = refl
no_rings (r ∷ rings) b e t = let some : (length (r ∷ rings) == 0) ≡ false = grind (arith, nat_tests) in absurd (true≢false (sym t ∙ e ∙ some))

pub if_none_then : {X : Type 0} (o : Option X) (P Q : Type 0) → (P → Q) → IfNone o P → IfNone o Q
if_none_then None P Q then p = then p
if_none_then (Some x) P Q then p = tt

-- ---- one step from there

-- what is held is not nothing
pub ready_fits : (rings : List ℕ) (h : Stored) (rest : List ℕ) → IsReady rings h rest → ((v : Version) → ¬ (h ≡ stored_in v [])) → FitsRings rings (fed h rest)
ready_fits rings h rest ready some = elim ready.fits [ inl empty ↦ absurd (some empty.0 empty.1) | inr fits ↦ fits ]

-- ---- bytes that are not there

-- before its tag and its length are held, no Send lacks so many
pub lacks_headed : (h : Stored) (v : Version) (head : ℕ) → h.version ≡ Some v → head ≡ header_len v Send → length h.bytes < head → ¬ LacksMore h
lacks_headed h v head known is few l = of_frame l.frame l.valid l.headed (omega (arith, ap length l.is, length-append h.bytes l.missing, l.more))
  where
    same : header_len v Send ≡ header_len l.version Send
    same = same_head (sym known ∙ l.known)

    of_frame : (f : Frame) → IsValid l.version f → header_len l.version (kind_of f) ≤ length h.bytes → length h.bytes + 512 < length (encoding l.version f) → ⊥
    of_frame (frames.Send c body) valid headed more = omega (arith, headed, few, is, same)
    of_frame (frames.Issue c n) valid headed more = omega (arith, more, length-encoding l.version (frames.Issue c n))
    of_frame (frames.Absolve c n) valid headed more = omega (arith, more, length-encoding l.version (frames.Absolve c n))
    of_frame (frames.Plead c n) valid headed more = omega (arith, more, length-encoding l.version (frames.Plead c n))
    of_frame (frames.LimitSending c n) valid headed more = omega (arith, more, length-encoding l.version (frames.LimitSending c n))
    of_frame (frames.LimitReceiving c n) valid headed more = omega (arith, more, length-encoding l.version (frames.LimitReceiving c n))
    of_frame (frames.Finish c) valid headed more = omega (arith, more, length-encoding l.version (frames.Finish c))

pub lacks_version : (h : Stored) → h.version ≡ None → ¬ LacksMore h
lacks_version h none l = absurd (none_some (sym none ∙ l.known))
  where
    none_some : {v : Version} → None ≡ Some v → ⊥
    none_some e = cc
