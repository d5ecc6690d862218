-- A Send that is begun, and what is held in front of its message.
use Rattle.std.proofs.Common.{◌≡◌, ℕ, ◌+◌, ◌<◌, ◌≤◌, Bool, true, false, List, [], ◌∷◌, ◌++◌, length, take, drop, Option, Some, None, ◌^◌, ◌%◌, refl, sym, ap, subst, ◌∙◌, arith, inl, inr}
use Rattle.std.specs.Prelude.{◌==◌}
use Rattle.std.proofs.lemmas.Bool.{cases_lt}
use Rattle.std.proofs.lemmas.List.{length-append, take_all, take-append-le, take-append-drop, length-drop, append-nil}
use Rattle.lc_frame.specs.declared.version.Version.{Version}
use Rattle.lc_frame.specs.declared.version.Version.TheVariants.{One, Two}
use Rattle.lc_frame.specs.declared.channel.Channel.{Channel}
use Rattle.lc_frame.specs.declared.kind.Kind.TheVariants.{Send}
use Rattle.lc_frame.specs.declared.frame_fault.FrameFault.{FrameFault}
use Rattle.lc_frame.specs.declared.frame_fault.FrameFault.TheVariants.{BadTag}
use Rattle.lc_frame.specs.Version.{greeting, begins, version_of}
use Rattle.lc_frame.specs.Channel.{channel_at}
use Rattle.lc_frame.specs.Kind.{header_len, IsInRange, width_of, width_len}
use Rattle.lc_frame.specs.Encoding.{tag_of, number_bytes, header, FaultStands}
use Rattle.lc_frame.specs.Scan.{number_in}
use Rattle.lc_frame.specs.Decoded.{IsOpen}
use Rattle.lc_frame.specs.Stored.{Stored, opened_as, fed, IsSettled, IsUndecided, HasFault}
use Rattle.lc_frame.specs.Begun.{BeginsSend, BeginsSendIn, HasBegun}
use Rattle.lc_frame.proofs.Bytes.{wide_of}
use Rattle.lc_frame.proofs.Tags.{channel_again}
use Rattle.lc_frame.proofs.Channels.{some_same}
use Rattle.lc_frame.proofs.Fronts.{length-header, frame_goes_on, fault_goes_on, body_found}
use Rattle.lc_frame.proofs.Stored.{told}
use Rattle.lc_frame.proofs.Openings.{part_short}
use Rattle.lc_frame.proofs.Sends.{begun_open}

-- ---- the header alone

open_front : (v : Version) (bytes more : List ℕ) → IsOpen v (bytes ++ more) → IsOpen v bytes
open_front v bytes more o = record { no_frame = λ f s. o.no_frame f (frame_goes_on v f bytes more s); no_fault = λ e s. o.no_fault e (fault_goes_on v e bytes more s) }

-- the first bytes of what a Send begins, as many as a header has at most, are those of its header
front_of_header : (v : Version) (c : Channel) (len k : ℕ) (bytes more : List ℕ) → BeginsSend v c len (bytes ++ more) → k ≤ length bytes → k ≤ header_len v Send → take k bytes ≡ take k (header v Send c len)
front_of_header v c len k bytes more b within short =
    sym (take-append-le k bytes more within) ∙ ap (take k) b.is ∙ take-append-le k (header v Send c len) b.rest (omega (arith, short, length-header v Send c len))

-- what is held of it, where its header is there
pub begun_back : (v : Version) (c : Channel) (len : ℕ) (bytes more : List ℕ) → BeginsSend v c len (bytes ++ more) → header_len v Send ≤ length bytes → BeginsSend v c len bytes
begun_back v c len bytes more b long =
    let n : ℕ = header_len v Send in
    let first : take n bytes ≡ header v Send c len = front_of_header v c len n bytes more b long (omega arith) ∙ take_all n (header v Send c len) (omega (arith, length-header v Send c len)) in
    record {
      in_range = b.in_range;
      rest = drop n bytes;
      is = sym (take-append-drop n bytes) ∙ ap (λ (x : List ℕ). x ++ drop n bytes) first;
    }

-- a message has a byte
pub some_long : (v : Version) (len : ℕ) → IsInRange v Send len → 0 < len
some_long v len r = omega (arith, r.0)

header_open : (v : Version) (c : Channel) (len : ℕ) → IsInRange v Send len → IsOpen v (header v Send c len)
header_open v c len r = begun_open v c len (header v Send c len) (record { in_range = r; rest = []; is = sym (append-nil (header v Send c len)) }) (omega (arith, some_long v len r, length-header v Send c len))

-- part of its header is open
pub part_open : (v : Version) (c : Channel) (len : ℕ) (bytes more : List ℕ) → BeginsSend v c len (bytes ++ more) → length bytes < header_len v Send → IsOpen v bytes
part_open v c len bytes more b few =
    let k : ℕ = length bytes in
    let H : List ℕ = header v Send c len in
    let front : bytes ≡ take k H = sym (take_all k bytes (omega arith)) ∙ front_of_header v c len k bytes more b (omega arith) (omega (arith, few)) in
    let whole : IsOpen v (take k H ++ drop k H) = subst (IsOpen v) (sym (take-append-drop k H)) (header_open v c len b.in_range) in
    subst (IsOpen v) (sym front) (open_front v (take k H) (drop k H) whole)

-- no fault stands where a Send is begun
begun_no_fault : (v : Version) (c : Channel) (len : ℕ) (bytes : List ℕ) (e : FrameFault) → BeginsSend v c len bytes → ¬ FaultStands v e bytes
begun_no_fault v c len bytes e b s =
    elim (cases_lt (length b.rest) len) [
      | inl few ↦ (begun_open v c len bytes b (omega (arith, few, ap length b.is, length-append (header v Send c len) b.rest, length-header v Send c len))).no_fault e s
      | inr long ↦ (body_found v Send c len b.rest bytes refl b.in_range b.is long).only.no_fault e s
    ]

pub has_begun_no_fault : (c : Channel) (len : ℕ) (h : Stored) (e : FrameFault) → HasBegun c len h → ¬ HasFault e h
has_begun_no_fault c len h e b s = in_version h.version h.bytes b s
  where
    in_version : (o : Option Version) (bytes : List ℕ) → BeginsSendIn o c len bytes → HasFault e (record { version = o; bytes = bytes }) → ⊥
    in_version None bytes b s = b
    in_version (Some v) bytes b s = begun_no_fault v c len bytes e b s

-- ---- one Send at most is begun

numbers_same : (v : Version) (m n : ℕ) → IsInRange v Send m → IsInRange v Send n → number_bytes (width_of v Send) m ≡ number_bytes (width_of v Send) n → m ≡ n
numbers_same v m n r s e = sym ((wide_of v Send).again m (small v m r)) ∙ ap (number_in (width_of v Send)) e ∙ (wide_of v Send).again n (small v n s)
  where
    small : (v : Version) (n : ℕ) → IsInRange v Send n → n < 256 ^ width_len (width_of v Send)
    small One n r = omega (arith, r.1)
    small Two n r = omega (arith, r.1)

first_same : {x y : ℕ} {xs ys : List ℕ} → x ∷ xs ≡ y ∷ ys → x ≡ y
first_same e = cc

rest_same : {x y : ℕ} {xs ys : List ℕ} → x ∷ xs ≡ y ∷ ys → xs ≡ ys
rest_same e = cc

pub begun_once : (v : Version) (c d : Channel) (m n : ℕ) (bytes : List ℕ) → BeginsSend v c m bytes → BeginsSend v d n bytes → (c ≡ d) × (m ≡ n)
begun_once v c d m n bytes b e =
    let w : ℕ = header_len v Send in
    let first : (x : Channel) (len : ℕ) (a : BeginsSend v x len bytes) → take w bytes ≡ header v Send x len = λ x len a.
    ap (take w) a.is ∙ take-append-le w (header v Send x len) a.rest (omega (arith, length-header v Send x len)) ∙ take_all w (header v Send x len) (omega (arith, length-header v Send x len)) in
    let same : header v Send c m ≡ header v Send d n = sym (first c m b) ∙ first d n e in
    let tags : tag_of Send c ≡ tag_of Send d = first_same same in
    (some_same c d (sym (channel_again Send c) ∙ ap (λ (t : ℕ). channel_at (t % 16)) tags ∙ channel_again Send d), numbers_same v m n b.in_range e.in_range (rest_same same))

-- ---- where the version is not known

none_told : (o : Option Version) (bytes : List ℕ) → record { version = None; bytes = bytes } ≡ opened_as o bytes → o ≡ None
none_told None bytes e = refl
none_told (Some v) bytes e = let none = ap (λ (h : Stored). h.version) e in absurd cc

-- a greeting is not whole
pub greeting_few : (bytes : List ℕ) → IsSettled (record { version = None; bytes = bytes }) → IsUndecided (record { version = None; bytes = bytes }) → length bytes < 4
greeting_few bytes settled u =
    elim (cases_lt (length bytes) 4) [
      | inl few ↦ few
      | inr many ↦
          let none : version_of bytes ≡ None = none_told (version_of bytes) bytes settled in
          absurd (u.no_fault BadTag (refl, record { no_version = none; no_part = λ p. omega (arith, many, part_short bytes p) }))
    ]

pub some_version : {v w : Version} → Some v ≡ Some w → v ≡ w
some_version e = cc

told_two : (mark whole later : Bool) (v : Version) → told mark whole ≡ None → told mark later ≡ Some v → 4 ≤ length (greeting v)
told_two true whole true v none e = omega (arith, ap (λ (w : Version). length (greeting w)) (some_version e))
told_two true whole false v none e = absurd cc
told_two false whole later v none e = absurd cc

version_two : (b : ℕ) (bytes more : List ℕ) (v : Version) → version_of (b ∷ bytes) ≡ None → version_of (b ∷ bytes ++ more) ≡ Some v → 4 ≤ length (greeting v)
version_two b bytes more v none e = told_two (b == 76) (begins (greeting Two) (b ∷ bytes)) (begins (greeting Two) (b ∷ bytes ++ more)) v none e

opened_few : (o : Option Version) (b : ℕ) (bytes more : List ℕ) → version_of (b ∷ bytes) ≡ None → version_of (b ∷ bytes ++ more) ≡ o → length (b ∷ bytes) + length more ≤ 4
    → (v : Version) → (opened_as o (b ∷ bytes ++ more)).version ≡ Some v → length (opened_as o (b ∷ bytes ++ more)).bytes ≤ 0
opened_few None b bytes more none e all v is = absurd cc
opened_few (Some w) b bytes more none e all v is = omega (arith, all, version_two b bytes more w none e, length-drop (length (greeting w)) (b ∷ bytes ++ more), length-append (b ∷ bytes) more)

-- once it is, nothing is held
pub greeted_few : (bytes more : List ℕ) → IsSettled (record { version = None; bytes = bytes }) → 0 < length bytes → length bytes + length more ≤ 4 → (v : Version) → (fed (record { version = None; bytes = bytes }) more).version ≡ Some v → length (fed (record { version = None; bytes = bytes }) more).bytes ≤ 0
greeted_few [] more settled some all v is = absurd (omega (arith, some))
greeted_few (b ∷ bytes) more settled some all v is = opened_few (version_of (b ∷ bytes ++ more)) b bytes more (none_told (version_of (b ∷ bytes)) (b ∷ bytes) settled) refl all v is
