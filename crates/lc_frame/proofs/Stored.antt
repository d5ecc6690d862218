-- What is held of a stream, as more bytes come.
use Rattle.std.proofs.Common.{◌≡◌, ℕ, ◌<◌, ◌≤◌, Bool, true, false, List, [], ◌∷◌, ◌++◌, length, drop, Option, Some, None, refl, sym, ap, ap₂, subst, ◌∙◌, append_assoc, arith, inl, inr, length-drop, take, take-append-drop}
use Rattle.std.specs.Prelude.{◌⊎◌, ◌==◌, ◌&&◌, if◌then◌else◌, ◌+◌}
use Rattle.std.specs.List.{flat_map, AllByRecursion}
use Rattle.std.proofs.lemmas.Bool.{cases_Bool, true≢false}
use Rattle.std.proofs.lemmas.Bool.Decides.{nat_tests}
use Rattle.std.proofs.lemmas.List.{append-nil, length-append, drop-append-le, take-append-le}
use Rattle.lc_frame.specs.declared.version.Version.{Version}
use Rattle.lc_frame.specs.declared.version.Version.TheVariants.{One, Two}
use Rattle.lc_frame.specs.declared.channel.Channel.{Channel}
use Rattle.lc_frame.specs.declared.kind.Kind.{Kind}
use Rattle.lc_frame.specs.declared.kind.Kind.TheVariants as kinds
use Rattle.lc_frame.specs.declared.frame.Frame.{Frame}
use Rattle.lc_frame.specs.declared.frame_fault.FrameFault.{FrameFault}
use Rattle.lc_frame.specs.Version.{greeting, begins, version_of, IsGreetingPart, GreetingBreaks}
use Rattle.lc_frame.specs.Frame.{kind_of, channel_of}
use Rattle.lc_frame.specs.Encoding.{tag_of, encoding}
use Rattle.lc_frame.specs.Stored.{Stored, stored_in, opened_as, opened, stored_as, fed, IsSettled, IsValidIn, encoding_in, before, FrameIn, FaultIn, HasFrame, HasFault, IsUndecided, front}
use Rattle.std.proofs.lemmas.List.Concat.{flat_map-append}
use Rattle.lc_frame.proofs.Bytes.{IsBytes, IsBytes-drop}
use Rattle.lc_frame.proofs.Channels.{number_below}
use Rattle.lc_frame.proofs.Fronts.{one_frame, one_fault, frame_no_fault, frame_goes_on, fault_goes_on, nothing_yet}

-- ---- fronts

begins_goes_on : (xs ys zs : List ℕ) → begins xs ys ≡ true → begins xs (ys ++ zs) ≡ true
begins_goes_on [] ys zs e = refl
begins_goes_on (x ∷ xs) [] zs e = absurd (true≢false (sym e))
begins_goes_on (x ∷ xs) (y ∷ ys) zs e = both (x == y) (begins xs ys) (begins xs (ys ++ zs)) e (begins_goes_on xs ys zs)
  where
    both : (a b c : Bool) → (a && b) ≡ true → (b ≡ true → c ≡ true) → (a && c) ≡ true
    both true b c e f = f e
    both false b c e f = e

pub begins_long : (xs ys : List ℕ) → begins xs ys ≡ true → length xs ≤ length ys
begins_long [] ys e = omega arith
begins_long (x ∷ xs) [] e = absurd (true≢false (sym e))
begins_long (x ∷ xs) (y ∷ ys) e = let rest = begins_long xs ys (behind (x == y) (begins xs ys) e) in omega (arith, rest)
  where
    behind : (a b : Bool) → (a && b) ≡ true → b ≡ true
    behind true b e = e
    behind false b e = absurd (true≢false (sym e))

rest_of_both : (a b : Bool) → a ≡ true → (a && b) ≡ true → b ≡ true
rest_of_both true b t e = e
rest_of_both false b t e = absurd (true≢false (sym t))

-- a list that begins another is its front
pub front_is : (xs ys : List ℕ) → begins xs ys ≡ true → xs ++ drop (length xs) ys ≡ ys
front_is [] ys e = refl
front_is (x ∷ xs) [] e = absurd (true≢false (sym e))
front_is (x ∷ xs) (y ∷ ys) e =
    elim (cases_Bool (x == y)) [
      | inl same ↦
          let one : x ≡ y = grind (arith, nat_tests) in
          ap₂ ◌∷◌ one (front_is xs ys (rest_of_both (x == y) (begins xs ys) same e))
      | inr other ↦ absurd (true≢false (sym e ∙ ap (λ (b : Bool). b && begins xs ys) other))
    ]

begins_self : (xs ys : List ℕ) → begins xs (xs ++ ys) ≡ true
begins_self [] ys = refl
begins_self (x ∷ xs) ys = let same : (x == x) ≡ true = grind (arith, nat_tests) in rw same (begins_self xs ys)

-- ---- the version that a stream tells

-- the version that two tests tell of a first byte: whether it is a greeting's, and whether a greeting is whole
abbrev pub told : Bool → Bool → Option Version
told mark whole = if mark then (if whole then Some Two else None) else Some One

told_goes_on : (mark whole later : Bool) (v : Version) → (whole ≡ true → later ≡ true) → told mark whole ≡ Some v → told mark later ≡ Some v
told_goes_on true true later v h e = rw (h refl) e
told_goes_on true false later v h e = absurd cc
told_goes_on false whole later v h e = e

version_goes_on : (bytes ys : List ℕ) (v : Version) → version_of bytes ≡ Some v → version_of (bytes ++ ys) ≡ Some v
version_goes_on [] ys v e = absurd cc
version_goes_on (b ∷ bytes) ys v e = told_goes_on (b == 76) (begins (greeting Two) (b ∷ bytes)) (begins (greeting Two) (b ∷ bytes ++ ys)) v (begins_goes_on (greeting Two) (b ∷ bytes) ys) e

told_long : (mark whole : Bool) (v : Version) (len : ℕ) → (whole ≡ true → 4 ≤ len) → told mark whole ≡ Some v → length (greeting v) ≤ len
told_long true true One len h e = omega arith
told_long true true Two len h e = h refl
told_long true false v len h e = absurd cc
told_long false whole One len h e = omega arith
told_long false whole Two len h e = absurd (one_two e)
  where
    one_two : Some One ≡ Some Two → ⊥
    one_two e = cc

greeting_long : (bytes : List ℕ) (v : Version) → version_of bytes ≡ Some v → length (greeting v) ≤ length bytes
greeting_long [] v e = absurd cc
greeting_long (b ∷ bytes) v e = told_long (b == 76) (begins (greeting Two) (b ∷ bytes)) v (length (b ∷ bytes)) (begins_long (greeting Two) (b ∷ bytes)) e

-- ---- pieces

opened_goes_on : (o : Option Version) (bytes ys : List ℕ) → version_of bytes ≡ o → fed (opened_as o bytes) ys ≡ opened (bytes ++ ys)
opened_goes_on None bytes ys e = refl
opened_goes_on (Some v) bytes ys e =
    let later : version_of (bytes ++ ys) ≡ Some v = version_goes_on bytes ys v e in
    let behind : drop (length (greeting v)) (bytes ++ ys) ≡ drop (length (greeting v)) bytes ++ ys = drop-append-le (length (greeting v)) bytes ys (greeting_long bytes v e) in
    ap (λ (xs : List ℕ). stored_in v xs) (sym behind) ∙ sym (ap (λ (o : Option Version). opened_as o (bytes ++ ys)) later)

held_goes_on : (version : Option Version) (bytes first later : List ℕ) → fed (stored_as version (bytes ++ first)) later ≡ stored_as version (bytes ++ (first ++ later))
held_goes_on None bytes first later = opened_goes_on (version_of (bytes ++ first)) (bytes ++ first) later refl ∙ ap opened (append_assoc bytes first later)
held_goes_on (Some v) bytes first later = ap (stored_in v) (append_assoc bytes first later)

pub fed_fed : (h : Stored) (first later : List ℕ) → fed (fed h first) later ≡ fed h (first ++ later)
fed_fed h first later = held_goes_on h.version h.bytes first later

pub fed_nothing : (h : Stored) → IsSettled h → fed h [] ≡ h
fed_nothing h settled = ap (stored_as h.version) (append-nil h.bytes) ∙ sym settled

opened_settled : (o : Option Version) (bytes : List ℕ) → version_of bytes ≡ o → IsSettled (opened_as o bytes)
opened_settled None bytes e = sym (ap (λ (o : Option Version). opened_as o bytes) e)
opened_settled (Some v) bytes e = refl

settled_as : (version : Option Version) (bytes : List ℕ) → IsSettled (stored_as version bytes)
settled_as None bytes = opened_settled (version_of bytes) bytes refl
settled_as (Some v) bytes = refl

pub fed_settled : (h : Stored) (more : List ℕ) → IsSettled (fed h more)
fed_settled h more = settled_as h.version (h.bytes ++ more)

pub settled_none : (bytes : List ℕ) → version_of bytes ≡ None → IsSettled (record { version = None; bytes = bytes })
settled_none bytes e = sym (ap (λ (o : Option Version). opened_as o bytes) e)

-- ---- streams of each version

no_mark : (k : Kind) (c : Channel) → (tag_of k c == 76) ≡ false
no_mark kinds.Send c = let small = number_below c in grind (arith, nat_tests)
no_mark kinds.Issue c = let small = number_below c in grind (arith, nat_tests)
no_mark kinds.Absolve c = let small = number_below c in grind (arith, nat_tests)
no_mark kinds.Plead c = let small = number_below c in grind (arith, nat_tests)
no_mark kinds.LimitSending c = let small = number_below c in grind (arith, nat_tests)
no_mark kinds.LimitReceiving c = let small = number_below c in grind (arith, nat_tests)
no_mark kinds.Finish c = let small = number_below c in grind (arith, nat_tests)

pub stream_told : (v : Version) (f : Frame) (more : List ℕ) → opened (greeting v ++ encoding v f ++ more) ≡ stored_in v (encoding v f ++ more)
stream_told One f more = rw (no_mark (kind_of f) (channel_of f)) refl
stream_told Two f more = refl

pub greeted_told : (more : List ℕ) → opened (greeting Two ++ more) ≡ stored_in Two more
greeted_told more = refl

-- ---- parts of a greeting

some_is : {v w : Version} → Some v ≡ Some w → v ≡ w
some_is e = cc

part_tells_none : (o : Option Version) (bytes : List ℕ) → version_of bytes ≡ o → IsGreetingPart bytes → o ≡ None
part_tells_none None bytes e p = refl
part_tells_none (Some v) bytes e p =
    let same : v ≡ Two = some_is (sym (version_goes_on bytes p.rest v e) ∙ ap version_of (sym p.is)) in
    absurd (omega (arith, greeting_long bytes v e, ap (λ (w : Version). length (greeting w)) same, p.some, ap length p.is, length-append bytes p.rest))

pub part_none : (bytes : List ℕ) → IsGreetingPart bytes → version_of bytes ≡ None
part_none bytes p = part_tells_none (version_of bytes) bytes refl p

pub front_of_part : (bytes more : List ℕ) → IsGreetingPart (bytes ++ more) → IsGreetingPart bytes
front_of_part bytes more p = record { rest = more ++ p.rest; some = omega (arith, p.some, length-append more p.rest); is = p.is ∙ append_assoc bytes more p.rest }

pub part_undecided : (bytes : List ℕ) → IsGreetingPart bytes → IsUndecided (record { version = None; bytes = bytes })
part_undecided bytes p = record { no_frame = λ f s. s; no_fault = λ e s. s.1.no_part p }

-- as held, where the version is told
pub opened_is : (o : Option Version) (bytes : List ℕ) → version_of bytes ≡ o → opened bytes ≡ opened_as o bytes
opened_is o bytes e = ap (λ (p : Option Version). opened_as p bytes) e

pub part_opened : (bytes : List ℕ) → IsGreetingPart bytes → IsUndecided (opened bytes)
part_opened bytes p = subst IsUndecided (sym (opened_is None bytes (part_none bytes p))) (part_undecided bytes p)

begins_or_front : (xs ys zs : List ℕ) → begins xs (ys ++ zs) ≡ true → (begins xs ys ≡ true) ⊎ ((rest : List ℕ) × ((0 < length rest) × (xs ≡ ys ++ rest)))
begins_or_front [] ys zs e = inl refl
begins_or_front (x ∷ xs) [] zs e = inr (x ∷ xs, (omega arith, refl))
begins_or_front (x ∷ xs) (y ∷ ys) zs e =
    elim (cases_Bool (x == y)) [
      | inl same ↦
          let one : x ≡ y = grind (arith, nat_tests) in
          elim (begins_or_front xs ys zs (rest_of_both (x == y) (begins xs (ys ++ zs)) same e)) [
            | inl b ↦ inl (rw same b)
            | inr p ↦ inr (p.0, (p.1.0, ap₂ ◌∷◌ one p.1.1))
          ]
      | inr other ↦ absurd (true≢false (sym e ∙ ap (λ (b : Bool). b && begins xs (ys ++ zs)) other))
    ]

breaks_tells : (mark later : Bool) (b : ℕ) (bytes ys : List ℕ) → (b == 76) ≡ mark → begins (greeting Two) (b ∷ bytes ++ ys) ≡ later → GreetingBreaks (b ∷ bytes) → told mark later ≡ None
breaks_tells true false b bytes ys em el s = refl
breaks_tells true true b bytes ys em el s =
    elim (begins_or_front (greeting Two) (b ∷ bytes) ys el) [
      | inl whole ↦ absurd (some_none (sym (ap₂ told em whole) ∙ s.no_version))
      | inr p ↦ absurd (s.no_part (record { rest = p.0; some = p.1.0; is = p.1.1 }))
    ]
  where
    some_none : {v : Version} → Some v ≡ None → ⊥
    some_none e = cc
breaks_tells false later b bytes ys em el s = absurd (some_none (sym (ap (λ (m : Bool). told m (begins (greeting Two) (b ∷ bytes))) em) ∙ s.no_version))
  where
    some_none : {v : Version} → Some v ≡ None → ⊥
    some_none e = cc

nothing_is_part : IsGreetingPart []
nothing_is_part = record { rest = greeting Two; some = omega arith; is = refl }

breaks_told : (bytes ys : List ℕ) → GreetingBreaks bytes → version_of (bytes ++ ys) ≡ None
breaks_told [] ys s = absurd (s.no_part nothing_is_part)
breaks_told (b ∷ bytes) ys s = breaks_tells (b == 76) (begins (greeting Two) (b ∷ bytes ++ ys)) b bytes ys refl refl s

breaks_goes_on : (bytes ys : List ℕ) → GreetingBreaks bytes → GreetingBreaks (bytes ++ ys)
breaks_goes_on bytes ys s = record { no_version = breaks_told bytes ys s; no_part = λ p. s.no_part (front_of_part bytes ys p) }

-- ---- what stands at the front of what is stored

-- a valid frame whose bytes are all that is held
whole_as : (version : Option Version) (f : Frame) (bytes : List ℕ) → IsValidIn version f → bytes ≡ encoding_in version f → FrameIn version f bytes
whole_as None f bytes valid e = absurd valid
whole_as (Some v) f bytes valid e = record { valid = valid; rest = []; is = e ∙ sym (append-nil (encoding v f)) }

pub whole_has : (f : Frame) (h : Stored) → IsValidIn h.version f × (h.bytes ≡ encoding_in h.version f) → HasFrame f h
whole_has f h found = whole_as h.version f h.bytes found.0 found.1

frame_goes_on_as : (version : Option Version) (f : Frame) (bytes ys : List ℕ) → FrameIn version f bytes → HasFrame f (stored_as version (bytes ++ ys))
frame_goes_on_as None f bytes ys s = absurd s
frame_goes_on_as (Some v) f bytes ys s = frame_goes_on v f bytes ys s

pub has_frame_goes_on : (f : Frame) (h : Stored) (ys : List ℕ) → HasFrame f h → HasFrame f (fed h ys)
has_frame_goes_on f h ys s = frame_goes_on_as h.version f h.bytes ys s

fault_goes_on_as : (version : Option Version) (e : FrameFault) (bytes ys : List ℕ) → FaultIn version e bytes → HasFault e (stored_as version (bytes ++ ys))
fault_goes_on_as None e bytes ys s = subst (HasFault e) (sym (opened_is None (bytes ++ ys) (breaks_told bytes ys s.1))) (s.0, breaks_goes_on bytes ys s.1)
fault_goes_on_as (Some v) e bytes ys s = fault_goes_on v e bytes ys s

pub has_fault_goes_on : (e : FrameFault) (h : Stored) (ys : List ℕ) → HasFault e h → HasFault e (fed h ys)
has_fault_goes_on e h ys s = fault_goes_on_as h.version e h.bytes ys s

one_frame_in : (version : Option Version) (f g : Frame) (bytes : List ℕ) → FrameIn version f bytes → FrameIn version g bytes → f ≡ g
one_frame_in None f g bytes s t = absurd s
one_frame_in (Some v) f g bytes s t = one_frame v f g bytes s t

pub has_one_frame : (f g : Frame) (h : Stored) → HasFrame f h → HasFrame g h → f ≡ g
has_one_frame f g h s t = one_frame_in h.version f g h.bytes s t

one_fault_in : (version : Option Version) (d e : FrameFault) (bytes : List ℕ) → FaultIn version d bytes → FaultIn version e bytes → d ≡ e
one_fault_in None d e bytes s t = s.0 ∙ sym t.0
one_fault_in (Some v) d e bytes s t = one_fault v d e bytes s t

pub has_one_fault : (d e : FrameFault) (h : Stored) → HasFault d h → HasFault e h → d ≡ e
has_one_fault d e h s t = one_fault_in h.version d e h.bytes s t

never_both_in : (version : Option Version) (f : Frame) (e : FrameFault) (bytes : List ℕ) → FrameIn version f bytes → FaultIn version e bytes → ⊥
never_both_in None f e bytes s t = s
never_both_in (Some v) f e bytes s t = frame_no_fault v f e bytes s t

pub has_never_both : (f : Frame) (e : FrameFault) (h : Stored) → HasFrame f h → HasFault e h → ⊥
has_never_both f e h s t = never_both_in h.version f e h.bytes s t

-- ---- frames in front of what is stored

none_valid : (fs : List Frame) → AllByRecursion (IsValidIn None) fs → fs ≡ []
none_valid [] each = refl
none_valid (f ∷ fs) each = absurd each.0

before_fed_as : (version : Option Version) (fs : List Frame) (bytes more : List ℕ) → AllByRecursion (IsValidIn version) fs
    → stored_as version ((flat_map (encoding_in version) fs ++ bytes) ++ more) ≡ before fs (stored_as version (bytes ++ more))
before_fed_as None fs bytes more each =
    let none : fs ≡ [] = none_valid fs each in
    ap (λ (gs : List Frame). opened ((flat_map (encoding_in None) gs ++ bytes) ++ more)) none ∙ sym (ap (λ (gs : List Frame). before gs (opened (bytes ++ more))) none)
before_fed_as (Some v) fs bytes more each = ap (stored_in v) (append_assoc (flat_map (encoding v) fs) bytes more)

-- frames in front stay there when more bytes come
pub before_fed : (fs : List Frame) (h : Stored) (more : List ℕ) → AllByRecursion (IsValidIn h.version) fs → fed (before fs h) more ≡ before fs (fed h more)
before_fed fs h more each = before_fed_as h.version fs h.bytes more each

before_append_as : (version : Option Version) (fs gs : List Frame) (bytes : List ℕ) → flat_map (encoding_in version) (fs ++ gs) ++ bytes ≡ flat_map (encoding_in version) fs ++ (flat_map (encoding_in version) gs ++ bytes)
before_append_as version fs gs bytes = ap (λ (x : List ℕ). x ++ bytes) (flat_map-append (encoding_in version) fs gs) ∙ append_assoc (flat_map (encoding_in version) fs) (flat_map (encoding_in version) gs) bytes

pub before_append : (fs gs : List Frame) (h : Stored) → before (fs ++ gs) h ≡ before fs (before gs h)
before_append fs gs h = ap (λ (x : List ℕ). record { version = h.version; bytes = x }) (before_append_as h.version fs gs h.bytes)

-- frames that are valid stay so when more bytes come
each_as : (version : Option Version) (fs : List Frame) (bytes : List ℕ) → AllByRecursion (IsValidIn version) fs → AllByRecursion (IsValidIn (stored_as version bytes).version) fs
each_as None [] bytes each = tt
each_as None (f ∷ fs) bytes each = absurd each.0
each_as (Some v) fs bytes each = each

pub each_fed : (fs : List Frame) (h : Stored) (more : List ℕ) → AllByRecursion (IsValidIn h.version) fs → AllByRecursion (IsValidIn (fed h more).version) fs
each_fed fs h more each = each_as h.version fs (h.bytes ++ more) each

-- ---- how long it is, and that it is bytes

opened_short : (o : Option Version) (bytes : List ℕ) → length (opened_as o bytes).bytes ≤ length bytes
opened_short None bytes = omega arith
opened_short (Some v) bytes = omega (arith, length-drop (length (greeting v)) bytes)

held_short : (version : Option Version) (bytes : List ℕ) → length (stored_as version bytes).bytes ≤ length bytes
held_short None bytes = opened_short (version_of bytes) bytes
held_short (Some v) bytes = omega arith

pub fed_short : (h : Stored) (more : List ℕ) → length (fed h more).bytes ≤ length h.bytes + length more
fed_short h more = omega (arith, held_short h.version (h.bytes ++ more), length-append h.bytes more)

opened_fits : (o : Option Version) (bytes : List ℕ) → IsBytes bytes → IsBytes (opened_as o bytes).bytes
opened_fits None bytes fits = fits
opened_fits (Some v) bytes fits = IsBytes-drop (length (greeting v)) bytes fits

held_fits : (version : Option Version) (bytes : List ℕ) → IsBytes bytes → IsBytes (stored_as version bytes).bytes
held_fits None bytes fits = opened_fits (version_of bytes) bytes fits
held_fits (Some v) bytes fits = fits

pub fed_fits : (h : Stored) (more : List ℕ) → IsBytes (h.bytes ++ more) → IsBytes (fed h more).bytes
fed_fits h more fits = held_fits h.version (h.bytes ++ more) fits

-- ---- fronts of what is stored

front_as : (version : Option Version) (k : ℕ) (bytes : List ℕ) → IsUndecided (record { version = version; bytes = bytes }) → IsUndecided (record { version = version; bytes = take k bytes })
front_as None k bytes u = record { no_frame = λ f s. s; no_fault = λ e s. u.no_fault e (s.0, subst GreetingBreaks (take-append-drop k bytes) (breaks_goes_on (take k bytes) (drop k bytes) s.1)) }
front_as (Some v) k bytes u = record {
  no_frame = λ f s. u.no_frame f (subst (FrameIn (Some v) f) (take-append-drop k bytes) (frame_goes_on v f (take k bytes) (drop k bytes) s));
  no_fault = λ e s. u.no_fault e (subst (FaultIn (Some v) e) (take-append-drop k bytes) (fault_goes_on v e (take k bytes) (drop k bytes) s));
}

pub nothing_in : (version : Option Version) → IsUndecided (record { version = version; bytes = [] })
nothing_in None = part_undecided [] nothing_is_part
nothing_in (Some v) = record { no_frame = (nothing_yet v).now_open.no_frame; no_fault = (nothing_yet v).now_open.no_fault }

-- a version is told as soon as the bytes suffice
late : (mark whole : Bool) (b : ℕ) (bytes ys : List ℕ) (v : Version) → (b == 76) ≡ mark → begins (greeting Two) (b ∷ bytes ++ ys) ≡ whole → version_of (b ∷ bytes) ≡ None → told mark whole ≡ Some v → length (b ∷ bytes) ≤ length (greeting v)
late true false b bytes ys v em el none e = absurd (none_some e)
  where
    none_some : None ≡ Some v → ⊥
    none_some e = cc
late true true b bytes ys v em el none e =
    elim (begins_or_front (greeting Two) (b ∷ bytes) ys el) [
      | inl whole ↦ absurd (some_none (sym (ap₂ told em whole) ∙ none))
      | inr p ↦ omega (arith, p.1.0, ap length p.1.1, length-append (b ∷ bytes) p.0, ap (λ (w : Version). length (greeting w)) (some_is e))
    ]
  where
    some_none : {v : Version} → Some v ≡ None → ⊥
    some_none e = cc
late false whole b bytes ys v em el none e = absurd (some_none (sym (ap (λ (m : Bool). told m (begins (greeting Two) (b ∷ bytes))) em) ∙ none))
  where
    some_none : {v : Version} → Some v ≡ None → ⊥
    some_none e = cc

told_late : (bytes ys : List ℕ) (v : Version) → version_of bytes ≡ None → version_of (bytes ++ ys) ≡ Some v → length bytes ≤ length (greeting v)
told_late [] ys v none e = omega arith
told_late (b ∷ bytes) ys v none e = late (b == 76) (begins (greeting Two) (b ∷ bytes ++ ys)) b bytes ys v refl refl none e

-- with one byte more, whatever was no whole front is none
one_more_opened : (o : Option Version) (bytes : List ℕ) (b k : ℕ) → version_of (bytes ++ b ∷ []) ≡ o → version_of bytes ≡ None → IsUndecided (record { version = None; bytes = bytes }) → k < length (opened_as o (bytes ++ b ∷ [])).bytes
    → IsUndecided (front k (opened_as o (bytes ++ b ∷ [])))
one_more_opened None bytes b k e none u lt =
    let same : take k (bytes ++ b ∷ []) ≡ take k bytes = take-append-le k bytes (b ∷ []) (omega (arith, lt, length-append bytes (b ∷ []))) in
    subst (λ (x : List ℕ). IsUndecided (record { version = None; bytes = x })) (sym same) (front_as None k bytes u)
one_more_opened (Some v) bytes b k e none u lt =
    let first : k ≡ 0 = omega (arith, lt, length-drop (length (greeting v)) (bytes ++ b ∷ []), length-append bytes (b ∷ []), told_late bytes (b ∷ []) v none e, greeting_long (bytes ++ b ∷ []) v e) in
    subst (λ (n : ℕ). IsUndecided (stored_in v (take n (drop (length (greeting v)) (bytes ++ b ∷ []))))) (sym first) (nothing_in (Some v))

settled_version : (o : Option Version) (bytes : List ℕ) → version_of bytes ≡ o → record { version = None; bytes = bytes } ≡ opened bytes → version_of bytes ≡ None
settled_version None bytes e settled = e
settled_version (Some v) bytes e settled = absurd (none_some (ap (λ (h : Stored). h.version) (settled ∙ opened_is (Some v) bytes e)))
  where
    none_some : None ≡ Some v → ⊥
    none_some e = cc

one_more_as : (version : Option Version) (bytes : List ℕ) (b k : ℕ) → IsSettled (record { version = version; bytes = bytes }) → IsUndecided (record { version = version; bytes = bytes }) → k < length (stored_as version (bytes ++ b ∷ [])).bytes
    → IsUndecided (front k (stored_as version (bytes ++ b ∷ [])))
one_more_as None bytes b k settled u lt = one_more_opened (version_of (bytes ++ b ∷ [])) bytes b k refl (settled_version (version_of bytes) bytes refl settled) u lt
one_more_as (Some v) bytes b k settled u lt =
    let same : take k (bytes ++ b ∷ []) ≡ take k bytes = take-append-le k bytes (b ∷ []) (omega (arith, lt, length-append bytes (b ∷ []))) in
    subst (λ (x : List ℕ). IsUndecided (stored_in v x)) (sym same) (front_as (Some v) k bytes u)

pub one_more_front : (h : Stored) (b k : ℕ) → IsSettled h → IsUndecided h → k < length (fed h (b ∷ [])).bytes → IsUndecided (front k (fed h (b ∷ [])))
one_more_front h b k settled u lt = one_more_as h.version h.bytes b k settled u lt
