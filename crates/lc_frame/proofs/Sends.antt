-- A Send that is begun, as more of it comes.
use Rattle.std.proofs.Common.{◌≡◌, ℕ, ◌+◌, ◌-◌, ◌<◌, ◌≤◌, ◌^◌, ◌/◌, ◌%◌, Bool, true, false, List, [], ◌∷◌, ◌++◌, length, get_or, take, drop, Option, Some, None, refl, sym, ap, subst, ◌∙◌, append_assoc, arith, inl, inr}
use Rattle.std.proofs.lemmas.Bool.{cases_lt, true≢false}
use Rattle.std.proofs.lemmas.List.{append-nil, length-append, take_all}
use Rattle.lc_frame.specs.declared.version.Version.{Version}
use Rattle.lc_frame.specs.declared.version.Version.TheVariants.{One, Two}
use Rattle.lc_frame.specs.declared.channel.Channel.{Channel}
use Rattle.lc_frame.specs.declared.kind.Kind.{Kind}
use Rattle.lc_frame.specs.declared.kind.Kind.TheVariants as kinds
use Rattle.lc_frame.specs.declared.frame.Frame.{Frame}
use Rattle.lc_frame.specs.declared.frame.Frame.TheVariants.{Send}
use Rattle.lc_frame.specs.declared.frame_fault.FrameFault.{FrameFault}
use Rattle.lc_frame.specs.declared.frame_fault.FrameFault.TheVariants.{BadTag}
use Rattle.lc_frame.specs.declared.scan.Scan.TheVariants.{Needs}
use Rattle.lc_frame.specs.Version.{version_of}
use Rattle.lc_frame.specs.Channel.{channel_at}
use Rattle.lc_frame.specs.Kind.{kind_at, has, width_of, width_len, IsInRange, is_in_range, fault_of, body_len, header_len}
use Rattle.lc_frame.specs.Frame.{IsValid}
use Rattle.lc_frame.specs.Encoding.{tag_of, header, encoding, FaultStands}
use Rattle.lc_frame.specs.Decoded.{IsOpen, OnlyFault}
use Rattle.lc_frame.specs.Scan.{number_in, frame_in, scan_of, scan_tag, FindsFrame, NeedsMore}
use Rattle.lc_frame.specs.Stored.{Stored, fed, stored_as, opened_as, IsSettled, IsUndecided}
use Rattle.lc_frame.specs.Begun.{BeginsSend, BeginsSendIn, HasBegun, BeginsAtMost, BeginsAtMostIn, TakesLonger}
use Rattle.lc_frame.specs.declared.head.Head.{Head}
use Rattle.lc_frame.specs.Progress.{HoldsFrame}
use Rattle.lc_frame.proofs.Bytes.{IsBytes, IsBytes-take, IsBytes-rest, wide_of}
use Rattle.lc_frame.proofs.Tags.{tag_from}
use Rattle.lc_frame.proofs.Fronts.{length-header, range_test, range_from, ranged, short_body, needs_open, header_back, body_found, number_fault, finds_known, finds_tag}

-- a tag and a length in range are those of a Send
begins_behind : (v : Version) (c : Channel) (bytes rest : List ℕ) (n : ℕ) → IsBytes rest → bytes ≡ tag_of kinds.Send c ∷ rest → width_len (width_of v kinds.Send) ≤ length rest
    → n ≡ number_in (width_of v kinds.Send) (take (width_len (width_of v kinds.Send)) rest) → IsInRange v kinds.Send n → BeginsSend v c n bytes
begins_behind v c bytes rest n fits is long number r = record {
  in_range = r;
  rest = drop (width_len (width_of v kinds.Send)) rest;
  is = is ∙ header_back v kinds.Send c rest fits long ∙ ap (λ (m : ℕ). header v kinds.Send c m ++ drop (width_len (width_of v kinds.Send)) rest) (sym number);
}

tagged : (first : ℕ) (rest : List ℕ) (tag : ℕ) → first ≡ tag → first ∷ rest ≡ tag ∷ rest
tagged first rest tag e = ap (λ (b : ℕ). b ∷ rest) e

-- the same as the code reads them
pub begins_from : (v : Version) (c : Channel) (bytes text : List ℕ) (w n : ℕ) → IsBytes bytes → 1 ≤ length bytes → get_or bytes 0 0 ≡ tag_of kinds.Send c → w ≡ width_len (width_of v kinds.Send)
    → w ≤ length bytes - 1 → text ≡ take w (take (length bytes - 1) (drop 1 bytes)) → n ≡ number_in (width_of v kinds.Send) text → IsInRange v kinds.Send n → BeginsSend v c n bytes
begins_from v c [] text w n fits some tag width long front number r = absurd (omega (arith, some))
begins_from v c (first ∷ rest) text w n fits some tag width long front number r =
    let all : take (length (first ∷ rest) - 1) rest ≡ rest = take_all (length (first ∷ rest) - 1) rest (omega arith) in
    let text_is : text ≡ take (width_len (width_of v kinds.Send)) rest = front ∙ ap (λ (x : List ℕ). take w x) all ∙ ap (λ (m : ℕ). take m rest) width in
    begins_behind v c (first ∷ rest) rest n (IsBytes-rest first rest fits) (tagged first rest (tag_of kinds.Send c) tag) (omega (arith, long, width)) (number ∙ ap (λ (x : List ℕ). number_in (width_of v kinds.Send) x) text_is) r

-- ---- more of it

pub begins_on : (v : Version) (c : Channel) (len : ℕ) (bytes more : List ℕ) → BeginsSend v c len bytes → BeginsSend v c len (bytes ++ more)
begins_on v c len bytes more b = record {
  in_range = b.in_range;
  rest = b.rest ++ more;
  is = ap (λ (x : List ℕ). x ++ more) b.is ∙ append_assoc (header v kinds.Send c len) b.rest more;
}

pub length-begun : (v : Version) (c : Channel) (len : ℕ) (bytes : List ℕ) (b : BeginsSend v c len bytes) → length bytes ≡ header_len v kinds.Send + length b.rest
length-begun v c len bytes b = omega (arith, ap length b.is, length-append (header v kinds.Send c len) b.rest, length-header v kinds.Send c len)

-- while bytes are missing, as many are needed as it has
pub begun_needs : (v : Version) (c : Channel) (len : ℕ) (bytes : List ℕ) → BeginsSend v c len bytes → length bytes < header_len v kinds.Send + len → scan_of v bytes ≡ Needs (header_len v kinds.Send + len)
begun_needs v c len bytes b few = ap (scan_of v) b.is ∙ ranged v kinds.Send c len b.rest refl b.in_range ∙ short_body v kinds.Send c len b.rest (omega (arith, few, length-begun v c len bytes b))

needs_same : {m n : ℕ} → Needs m ≡ Needs n → m ≡ n
needs_same e = cc

-- with no more bytes than these, and needing no more, it has no more
pub begun_within : (v : Version) (most : ℕ) (bytes : List ℕ) → length bytes ≤ most → ((n : ℕ) → scan_of v bytes ≡ Needs n → n ≤ most) → BeginsAtMost v most bytes
begun_within v most bytes few needs c len b =
    elim (cases_lt (length bytes) (header_len v kinds.Send + len)) [
      | inl short ↦ needs (header_len v kinds.Send + len) (begun_needs v c len bytes b short)
      | inr whole ↦ omega (arith, whole, few)
    ]

-- where so many are needed
pub needs_within : (v : Version) (most need : ℕ) (bytes : List ℕ) → NeedsMore v bytes need → need ≤ most → BeginsAtMost v most bytes
needs_within v most need bytes k few =
    let found : scan_of v bytes ≡ Needs need = ap (scan_of v) (sym (append-nil bytes)) ∙ k.again [] (omega (arith, k.short, ap length (append-nil bytes))) in
    begun_within v most bytes (omega (arith, k.short, few)) (λ n e. omega (arith, needs_same (sym e ∙ found), few))

-- where the bytes are those of a frame
pub whole_within : (v : Version) (most : ℕ) (head : Head) (bytes : List ℕ) → HoldsFrame v head bytes → length bytes ≤ most → BeginsAtMost v most bytes
whole_within v most head bytes h few = begun_within v most bytes few (λ n e. absurd ((needs_open v bytes n e).no_frame (frame_in v head bytes) h.only.stands))

-- where there is none
pub nothing_within : (version : Option Version) (most : ℕ) → BeginsAtMostIn version most []
nothing_within None most = tt
nothing_within (Some v) most = λ c len b. absurd (omega (arith, length-begun v c len [] b, header_some v))
  where
    header_some : (v : Version) → 1 ≤ header_len v kinds.Send
    header_some One = omega arith
    header_some Two = omega arith

-- where more are needed than so many, none stands with so many
pub needs_longer : (v : Version) (most need : ℕ) (bytes : List ℕ) → NeedsMore v bytes need → most < need → TakesLonger v most bytes
needs_longer v most need bytes k many = λ more few. k.more more (omega (arith, few, many))

-- nor where a frame has more
pub frame_longer : (v : Version) (most used : ℕ) (head : Head) (bytes : List ℕ) → FindsFrame v head used bytes → most < used → TakesLonger v most bytes
frame_longer v most used head bytes f many = λ more few. absurd (omega (arith, few, many, f.within, length-append bytes more))

-- while bytes are missing, it is open
pub begun_open : (v : Version) (c : Channel) (len : ℕ) (bytes : List ℕ) → BeginsSend v c len bytes → length bytes < header_len v kinds.Send + len → IsOpen v bytes
begun_open v c len bytes b few =
    needs_open v bytes (header_len v kinds.Send + len) (begun_needs v c len bytes b few)

-- where a frame of no more bytes stands, it has no more
pub frame_within : (v : Version) (most used : ℕ) (head : Head) (bytes : List ℕ) → FindsFrame v head used bytes → used ≤ most → BeginsAtMost v most bytes
frame_within v most used head bytes f few c len b =
    elim (cases_lt (length bytes) (header_len v kinds.Send + len)) [
      | inl short ↦ absurd ((begun_open v c len bytes b short).no_frame _ f.only.stands)
      | inr whole ↦
          let found = body_found v kinds.Send c len b.rest bytes refl b.in_range b.is (omega (arith, whole, length-begun v c len bytes b)) in
          omega (arith, few, f.used_is, found.used_is, ap (λ (g : Frame). length (encoding v g)) (f.only.same _ found.only.stands))
    ]

-- where a fault stands, none is begun
pub fault_within : (v : Version) (most : ℕ) (e : FrameFault) (bytes : List ℕ) → OnlyFault v e bytes → BeginsAtMost v most bytes
fault_within v most e bytes o c len b =
    elim (cases_lt (length bytes) (header_len v kinds.Send + len)) [
      | inl short ↦ absurd ((begun_open v c len bytes b short).no_fault e o.stands)
      | inr whole ↦ absurd (o.no_frame _ (body_found v kinds.Send c len b.rest bytes refl b.in_range b.is (omega (arith, whole, length-begun v c len bytes b))).only.stands)
    ]

-- with all its bytes it is the Send of what stands behind its length
pub begun_whole : (v : Version) (c : Channel) (len : ℕ) (bytes : List ℕ) (b : BeginsSend v c len bytes) → length bytes ≡ header_len v kinds.Send + len → bytes ≡ encoding v (Send c b.rest)
begun_whole v c len bytes b all =
    let body : len ≡ length b.rest = omega (arith, all, length-begun v c len bytes b) in
    b.is ∙ ap (λ (m : ℕ). header v kinds.Send c m ++ b.rest) body

pub begun_valid : (v : Version) (c : Channel) (len : ℕ) (bytes : List ℕ) (b : BeginsSend v c len bytes) → length bytes ≡ header_len v kinds.Send + len → IsValid v (Send c b.rest)
begun_valid v c len bytes b all =
    let body : len ≡ length b.rest = omega (arith, all, length-begun v c len bytes b) in
    (refl, subst (λ (m : ℕ). IsInRange v kinds.Send m) body b.in_range)

-- ---- what is held of it

begins_in_on : (version : Option Version) (c : Channel) (len : ℕ) (bytes more : List ℕ) → BeginsSendIn version c len bytes → HasBegun c len (stored_as version (bytes ++ more))
begins_in_on None c len bytes more b = absurd b
begins_in_on (Some v) c len bytes more b = begins_on v c len bytes more b

-- as more of it comes, it stays begun
pub has_begun_on : (c : Channel) (len : ℕ) (h : Stored) (more : List ℕ) → HasBegun c len h → HasBegun c len (fed h more)
has_begun_on c len h more b = begins_in_on h.version c len h.bytes more b

-- ---- what is held where no long Send is begun

-- the tag and the number of a frame have 9 bytes at most
header_few : (v : Version) (k : Kind) → header_len v k ≤ 9
header_few One kinds.Send = omega arith
header_few Two kinds.Send = omega arith
header_few v kinds.Issue = omega arith
header_few v kinds.Absolve = omega arith
header_few v kinds.Plead = omega arith
header_few v kinds.LimitSending = omega arith
header_few v kinds.LimitReceiving = omega arith
header_few v kinds.Finish = omega arith

module _ (v : Version) (most : ℕ) (bytes : List ℕ) (short : (c : Channel) (len : ℕ) → BeginsSend v c len bytes → len ≤ most) where
  body_few : (k : Kind) (c : Channel) (n : ℕ) (rest : List ℕ) → IsInRange v k n → bytes ≡ header v k c n ++ rest → length rest < body_len k n → header_len v k + body_len k n ≤ 9 + most
  body_few kinds.Send c n rest r is few = omega (arith, short c n (record { in_range = r; rest = rest; is = is }), header_few v kinds.Send)
  body_few kinds.Issue c n rest r is few = absurd (omega (arith, few))
  body_few kinds.Absolve c n rest r is few = absurd (omega (arith, few))
  body_few kinds.Plead c n rest r is few = absurd (omega (arith, few))
  body_few kinds.LimitSending c n rest r is few = absurd (omega (arith, few))
  body_few kinds.LimitReceiving c n rest r is few = absurd (omega (arith, few))
  body_few kinds.Finish c n rest r is few = absurd (omega (arith, few))

  -- where bytes with a header are open, they are fewer
  headed_few : (k : Kind) (c : Channel) (n : ℕ) (rest : List ℕ) → has v k ≡ true → IsInRange v k n → bytes ≡ header v k c n ++ rest → IsOpen v bytes → length bytes < 9 + most
  headed_few k c n rest known r is o =
      elim (cases_lt (length rest) (body_len k n)) [
        | inl few ↦ omega (arith, few, body_few k c n rest r is few, ap length is, length-append (header v k c n) rest, length-header v k c n)
        | inr long ↦
            let found = body_found v k c n rest bytes known r is long in
            absurd (o.no_frame _ found.only.stands)
      ]

  ranged_few : (k : Kind) (c : Channel) (n : ℕ) (rest : List ℕ) → has v k ≡ true → n < 256 ^ width_len (width_of v k) → bytes ≡ header v k c n ++ rest → (ok : Bool) → is_in_range v k n ≡ ok → IsOpen v bytes → length bytes < 9 + most
  ranged_few k c n rest known fits is true t o = headed_few k c n rest known (range_from v k n t) is o
  ranged_few k c n rest known fits is false t o =
      let fault : FaultStands v (fault_of k n) bytes = number_fault v k n bytes (record {
        kind = k;
        known = known;
        channel = c;
        number = n;
        rest = rest;
        fits = fits;
        is = is;
        out = λ r. absurd (true≢false (sym (range_test v k n r) ∙ t));
        names = refl;
      }) in
      absurd (o.no_fault _ fault)

  -- behind a tag of the version
  tagged_few : (k : Kind) (c : Channel) (rest : List ℕ) → has v k ≡ true → IsBytes rest → bytes ≡ tag_of k c ∷ rest → IsOpen v bytes → length bytes < 9 + most
  tagged_few k c rest known fits is o =
      let w = width_len (width_of v k) in
      elim (cases_lt (length rest) w) [
        | inl few ↦ omega (arith, few, ap length is, header_few v k)
        | inr long ↦
            let n : ℕ = number_in (width_of v k) (take w rest) in
            ranged_few k c n (drop w rest) known ((wide_of v k).below (take w rest) (IsBytes-take w rest fits)) (is ∙ header_back v k c rest fits long) (is_in_range v k n) refl o
      ]

  known_few : (first : ℕ) (k : Kind) (c : Channel) (rest : List ℕ) (known : Bool) → has v k ≡ known → IsBytes rest → kind_at (first / 16) ≡ Some k → channel_at (first % 16) ≡ Some c → bytes ≡ first ∷ rest → IsOpen v bytes → length bytes < 9 + most
  known_few first k c rest true known fits ek ec is o = tagged_few k c rest known fits (is ∙ ap (λ (b : ℕ). b ∷ rest) (tag_from first k c ek ec)) o
  known_few first k c rest false alien fits ek ec is o =
      let found : OnlyFault v BadTag (first ∷ rest) = finds_known v first k c rest fits ek ec false alien in
      absurd (o.no_fault BadTag (subst (FaultStands v BadTag) (sym is) found.stands))

  first_few : (first : ℕ) (rest : List ℕ) (k : Option Kind) (c : Option Channel) → IsBytes rest → kind_at (first / 16) ≡ k → channel_at (first % 16) ≡ c → bytes ≡ first ∷ rest → IsOpen v bytes → length bytes < 9 + most
  unfolding scan_tag
  first_few first rest None c fits ek ec is o =
      let found : OnlyFault v BadTag (first ∷ rest) = finds_tag v first rest None c fits ek ec in
      absurd (o.no_fault BadTag (subst (FaultStands v BadTag) (sym is) found.stands))
  first_few first rest (Some k) None fits ek ec is o =
      let found : OnlyFault v BadTag (first ∷ rest) = finds_tag v first rest (Some k) None fits ek ec in
      absurd (o.no_fault BadTag (subst (FaultStands v BadTag) (sym is) found.stands))
  first_few first rest (Some k) (Some c) fits ek ec is o = known_few first k c rest (has v k) refl fits ek ec is o

  bytes_few : (xs : List ℕ) → IsBytes xs → bytes ≡ xs → IsOpen v bytes → length bytes < 9 + most
  bytes_few [] fits is o = omega (arith, ap length is)
  bytes_few (first ∷ rest) fits is o = first_few first rest _ _ (IsBytes-rest first rest fits) refl refl is o

-- a greeting is not whole
none_told : (o : Option Version) (bytes : List ℕ) → record { version = None; bytes = bytes } ≡ opened_as o bytes → o ≡ None
none_told None bytes e = refl
none_told (Some v) bytes e = let none = ap (λ (h : Stored). h.version) e in absurd cc

greeting_few : (bytes : List ℕ) → IsSettled (record { version = None; bytes = bytes }) → IsUndecided (record { version = None; bytes = bytes }) → length bytes < 4
greeting_few bytes settled u =
    elim (cases_lt (length bytes) 4) [
      | inl few ↦ few
      | inr many ↦
          let none : version_of bytes ≡ None = none_told (version_of bytes) bytes settled in
          absurd (u.no_fault BadTag (refl, record { no_version = none; no_part = λ p. omega (arith, many, p.some, ap length p.is, length-append bytes p.rest) }))
    ]

stored_few_as : (version : Option Version) (most : ℕ) (bytes : List ℕ) → IsBytes bytes → IsSettled (record { version = version; bytes = bytes }) → IsUndecided (record { version = version; bytes = bytes })
    → ((c : Channel) (len : ℕ) → BeginsSendIn version c len bytes → len ≤ most) → length bytes < 9 + most
stored_few_as None most bytes fits settled u short = omega (arith, greeting_few bytes settled u)
stored_few_as (Some v) most bytes fits settled u short = bytes_few v most bytes short bytes fits refl (record { no_frame = u.no_frame; no_fault = u.no_fault })

-- what is held where nothing stands, and no Send longer than this is begun: its bytes are fewer than so many and the longest header
pub stored_few : (most : ℕ) (h : Stored) → IsBytes h.bytes → IsSettled h → IsUndecided h → ((c : Channel) (len : ℕ) → HasBegun c len h → len ≤ most) → length h.bytes < 9 + most
stored_few most h fits settled u short = stored_few_as h.version most h.bytes fits settled u short
