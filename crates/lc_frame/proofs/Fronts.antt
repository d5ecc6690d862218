-- What a scan of a list of bytes answers, and what stands at its front: each follows from the other.
use Rattle.std.proofs.Common.{◌≡◌, ℕ, zero, suc, ◌+◌, ◌^◌, ◌/◌, ◌%◌, ◌<◌, ◌≤◌, Bool, true, false, cond, ltb, List, [], ◌∷◌, ◌++◌, length, take, drop, Option, Some, None, refl, sym, ap, ap₂, subst, ◌∙◌, append_assoc, arith, inl, inr, All}
use Rattle.std.proofs.lemmas.Bool.{cases_lt, ltb-false, ltb-true, le-ltb, lt-ltb, false_from_ne_true, true≢false}
use Rattle.std.proofs.lemmas.Bool.Decides.{nat_tests}
use Rattle.std.proofs.lemmas.List.{take_at, drop_at, take-append-drop, take-append-le, length-append, length-take, length-take-le, append-nil, nil_from_length, get_or_past}
use Rattle.std.proofs.Math.Seq.{take-append-add}
use Rattle.lc_frame.specs.declared.version.Version.{Version}
use Rattle.lc_frame.specs.declared.version.Version.TheVariants.{One, Two}
use Rattle.lc_frame.specs.declared.channel.Channel.{Channel}
use Rattle.lc_frame.specs.declared.kind.Kind.{Kind}
use Rattle.lc_frame.specs.declared.kind.Kind.TheVariants as kinds
use Rattle.lc_frame.specs.declared.frame.Frame.{Frame}
use Rattle.lc_frame.specs.declared.frame.Frame.TheVariants.{Send, Issue, Absolve, Plead, LimitSending, LimitReceiving, Finish}
use Rattle.lc_frame.specs.declared.frame_fault.FrameFault.{FrameFault}
use Rattle.lc_frame.specs.declared.frame_fault.FrameFault.TheVariants.{BadTag, ZeroLength, BadNumber, Truncated}
use Rattle.lc_frame.specs.declared.head.Head.{Head}
use Rattle.lc_frame.specs.declared.scan.Scan.{Scan}
use Rattle.lc_frame.specs.declared.scan.Scan.TheVariants.{Whole, Fault, Needs}
use Rattle.lc_frame.specs.Channel.{channel_at}
use Rattle.lc_frame.specs.Kind.{kind_at, has, width_of, width_len, IsInRange, is_in_range, fault_of, body_len, header_len, max_frame}
use Rattle.lc_frame.specs.Frame.{kind_of, channel_of, field_of, body_of, IsValid}
use Rattle.lc_frame.specs.Encoding.{tag_of, number_bytes, header, encoding, FrameStands, NoTagStands, NumberStands, FaultStands}
use Rattle.lc_frame.specs.Decoded.{IsOpen, OnlyFrame, OnlyFault, StandsAlone}
use Rattle.lc_frame.specs.Scan.{frame_with, frame_in, number_in, scan_body, scan_number, scan_tag, scan_of, FindsFrame, NeedsMore, Finds}
use Rattle.lc_frame.proofs.Bytes.{IsBytes, IsBytes-take, IsBytes-rest, wide_of}
use Rattle.lc_frame.proofs.Tags.{kind_again, channel_again, tag_from}

-- ---- headers

pub length-header : (v : Version) (k : Kind) (c : Channel) (n : ℕ) → length (header v k c n) ≡ header_len v k
length-header v k c n = omega (arith, (wide_of v k).len n)

-- a header in front is read as its kind, channel and number
pub scan_header : (v : Version) (k : Kind) (c : Channel) (n : ℕ) (rest : List ℕ) → has v k ≡ true → n < 256 ^ width_len (width_of v k)
    → scan_of v (header v k c n ++ rest) ≡ cond (is_in_range v k n) (scan_body v k c n rest) (Fault (fault_of k n))
unfolding scan_of scan_tag scan_number
scan_header v k c n rest known fits =
    let wide = wide_of v k in
    let len = wide.len n in
    let long : ltb (length (number_bytes (width_of v k) n ++ rest)) (width_len (width_of v k)) ≡ false = le-ltb _ _ (omega (arith, length-append (number_bytes (width_of v k) n) rest)) in
    rw (kind_again k c, channel_again k c, known, long, take_at (number_bytes (width_of v k) n) rest (width_len (width_of v k)) len, drop_at (number_bytes (width_of v k) n) rest (width_len (width_of v k)) len, wide.again n fits) refl

-- ---- numbers in range

pub range_test : (v : Version) (k : Kind) (n : ℕ) → IsInRange v k n → is_in_range v k n ≡ true
range_test v k n r = grind (arith, nat_tests)

pub range_from : (v : Version) (k : Kind) (n : ℕ) → is_in_range v k n ≡ true → IsInRange v k n
range_from v k n e = (grind (arith, nat_tests), grind (arith, nat_tests))

out_test : (v : Version) (k : Kind) (n : ℕ) → ¬ IsInRange v k n → is_in_range v k n ≡ false
out_test v k n out = false_from_ne_true _ (λ t. out (range_from v k n t))

-- a number in range has room in its field
fits_of : (v : Version) (k : Kind) (n : ℕ) → IsInRange v k n → n < 256 ^ width_len (width_of v k)
fits_of One kinds.Send n r = omega arith
fits_of Two kinds.Send n r = omega arith
fits_of v kinds.Issue n r = omega arith
fits_of v kinds.Absolve n r = omega arith
fits_of v kinds.Plead n r = omega arith
fits_of v kinds.LimitSending n r = omega arith
fits_of v kinds.LimitReceiving n r = omega arith
fits_of v kinds.Finish n r = omega arith

-- and no frame is longer than the longest
small_of : (v : Version) (k : Kind) (n : ℕ) → IsInRange v k n → header_len v k + body_len k n ≤ max_frame v
small_of One kinds.Send n r = omega arith
small_of Two kinds.Send n r = omega arith
small_of One kinds.Issue n r = omega arith
small_of Two kinds.Issue n r = omega arith
small_of One kinds.Absolve n r = omega arith
small_of Two kinds.Absolve n r = omega arith
small_of One kinds.Plead n r = omega arith
small_of Two kinds.Plead n r = omega arith
small_of One kinds.LimitSending n r = omega arith
small_of Two kinds.LimitSending n r = omega arith
small_of One kinds.LimitReceiving n r = omega arith
small_of Two kinds.LimitReceiving n r = omega arith
small_of One kinds.Finish n r = omega arith
small_of Two kinds.Finish n r = omega arith

header_small : (v : Version) (k : Kind) → header_len v k ≤ max_frame v
header_small One kinds.Send = omega arith
header_small Two kinds.Send = omega arith
header_small One kinds.Issue = omega arith
header_small Two kinds.Issue = omega arith
header_small One kinds.Absolve = omega arith
header_small Two kinds.Absolve = omega arith
header_small One kinds.Plead = omega arith
header_small Two kinds.Plead = omega arith
header_small One kinds.LimitSending = omega arith
header_small Two kinds.LimitSending = omega arith
header_small One kinds.LimitReceiving = omega arith
header_small Two kinds.LimitReceiving = omega arith
header_small One kinds.Finish = omega arith
header_small Two kinds.Finish = omega arith

-- ---- what stands is what is read

pub ranged : (v : Version) (k : Kind) (c : Channel) (n : ℕ) (rest : List ℕ) → has v k ≡ true → IsInRange v k n → scan_of v (header v k c n ++ rest) ≡ scan_body v k c n rest
ranged v k c n rest known r = scan_header v k c n rest known (fits_of v k n r) ∙ rw (range_test v k n r) refl

abbrev pub head_of : Frame → Head
head_of f = record { kind = kind_of f; channel = channel_of f; number = field_of f }

long_body : (v : Version) (k : Kind) (c : Channel) (n : ℕ) (rest : List ℕ) → body_len k n ≤ length rest → scan_body v k c n rest ≡ Whole (record { kind = k; channel = c; number = n }) (header_len v k + body_len k n)
unfolding scan_body
long_body v k c n rest long = let t : ltb (length rest) (body_len k n) ≡ false = le-ltb _ _ long in rw t refl

pub short_body : (v : Version) (k : Kind) (c : Channel) (n : ℕ) (rest : List ℕ) → length rest < body_len k n → scan_body v k c n rest ≡ Needs (header_len v k + body_len k n)
unfolding scan_body
short_body v k c n rest few = let t : ltb (length rest) (body_len k n) ≡ true = lt-ltb _ _ few in rw t refl

body_len_of : (f : Frame) → body_len (kind_of f) (field_of f) ≡ length (body_of f)
body_len_of (Send c body) = refl
body_len_of (Issue c n) = refl
body_len_of (Absolve c n) = refl
body_len_of (Plead c n) = refl
body_len_of (LimitSending c n) = refl
body_len_of (LimitReceiving c n) = refl
body_len_of (Finish c) = refl

pub length-encoding : (v : Version) (f : Frame) → length (encoding v f) ≡ header_len v (kind_of f) + length (body_of f)
length-encoding v f = omega (arith, length-append (header v (kind_of f) (channel_of f) (field_of f)) (body_of f), length-header v (kind_of f) (channel_of f) (field_of f))

pub stands_whole : (v : Version) (f : Frame) (bytes : List ℕ) → FrameStands v f bytes → scan_of v bytes ≡ Whole (head_of f) (length (encoding v f))
stands_whole v f bytes s =
    let k = kind_of f in
    let c = channel_of f in
    let n = field_of f in
    let parted : bytes ≡ header v k c n ++ (body_of f ++ s.rest) = s.is ∙ append_assoc (header v k c n) (body_of f) s.rest in
    let count : header_len v k + body_len k n ≡ length (encoding v f) = omega (arith, length-encoding v f, body_len_of f) in
    ap (scan_of v) parted ∙ ranged v k c n (body_of f ++ s.rest) s.valid.0 s.valid.1 ∙ long_body v k c n (body_of f ++ s.rest) (omega (arith, body_len_of f, length-append (body_of f) s.rest)) ∙ ap (λ (m : ℕ). Whole (head_of f) m) count

-- bytes that have the header of a frame and not all of the frame need as many as it has
pub headed_again : (v : Version) (f : Frame) (bytes missing : List ℕ) → IsValid v f → encoding v f ≡ bytes ++ missing → header_len v (kind_of f) ≤ length bytes → 0 < length missing
    → scan_of v bytes ≡ Needs (length bytes + length missing)
headed_again v f bytes missing valid is headed some =
    let k = kind_of f in
    let c = channel_of f in
    let n = field_of f in
    let w = header_len v k in
    let rest = drop w bytes in
    let front : take w bytes ≡ header v k c n = sym (take-append-le w bytes missing headed) ∙ ap (λ (x : List ℕ). take w x) (sym is) ∙ take_at (header v k c n) (body_of f) w (length-header v k c n) in
    let parted : bytes ≡ header v k c n ++ rest = sym (take-append-drop w bytes) ∙ ap (λ (x : List ℕ). x ++ rest) front in
    let count : w + body_len k n ≡ length bytes + length missing = omega (arith, length-encoding v f, body_len_of f, ap length is, length-append bytes missing) in
    let few : length rest < body_len k n = omega (arith, count, some, ap length parted, length-append (header v k c n) rest, length-header v k c n) in
    ap (scan_of v) parted ∙ ranged v k c n rest valid.0 valid.1 ∙ short_body v k c n rest few ∙ ap Needs count

-- a frame is what its head and its bytes say
with_again : (f : Frame) → frame_with (kind_of f) (channel_of f) (field_of f) (body_of f) ≡ f
with_again (Send c body) = refl
with_again (Issue c n) = refl
with_again (Absolve c n) = refl
with_again (Plead c n) = refl
with_again (LimitSending c n) = refl
with_again (LimitReceiving c n) = refl
with_again (Finish c) = refl

pub frame_again : (v : Version) (f : Frame) (bytes : List ℕ) → FrameStands v f bytes → frame_in v (head_of f) (take (length (encoding v f)) bytes) ≡ f
frame_again v f bytes s =
    let k = kind_of f in
    let c = channel_of f in
    let n = field_of f in
    let text : take (length (encoding v f)) bytes ≡ encoding v f = ap (λ (x : List ℕ). take (length (encoding v f)) x) s.is ∙ take_at (encoding v f) s.rest (length (encoding v f)) refl in
    let body : drop (header_len v k) (encoding v f) ≡ body_of f = drop_at (header v k c n) (body_of f) (header_len v k) (length-header v k c n) in
    ap (λ (x : List ℕ). frame_in v (head_of f) x) text ∙ ap (λ (x : List ℕ). frame_with k c n x) body ∙ with_again f

unless_known : (b : Bool) (s t : Scan) → b ≡ false → cond b s t ≡ t
unless_known b s t e = rw e refl

bad_tag : (v : Version) (first : ℕ) (rest : List ℕ) (k : Option Kind) (c : Option Channel) → kind_at (first / 16) ≡ k → channel_at (first % 16) ≡ c
    → ((k' : Kind) (c' : Channel) → has v k' ≡ true → ¬ (first ≡ tag_of k' c')) → scan_tag v k c rest ≡ Fault BadTag
unfolding scan_tag
bad_tag v first rest None c ek ec alien = refl
bad_tag v first rest (Some k) None ek ec alien = refl
bad_tag v first rest (Some k) (Some c) ek ec alien = unless_known (has v k) (scan_number v k c rest) (Fault BadTag) (false_from_ne_true _ (λ known. alien k c known (tag_from first k c ek ec)))

no_tag_again : (v : Version) (bytes : List ℕ) → NoTagStands v bytes → scan_of v bytes ≡ Fault BadTag
unfolding scan_of
no_tag_again v bytes s = ap (scan_of v) s.is ∙ bad_tag v s.first s.rest _ _ refl refl s.no_tag

number_again : (v : Version) (e : FrameFault) (bytes : List ℕ) → NumberStands v e bytes → scan_of v bytes ≡ Fault e
number_again v e bytes s = ap (scan_of v) s.is ∙ scan_header v s.kind s.channel s.number s.rest s.known s.fits ∙ rw (out_test v s.kind s.number s.out) (ap Fault s.names)

pub stands_fault : (v : Version) (e : FrameFault) (bytes : List ℕ) → FaultStands v e bytes → scan_of v bytes ≡ Fault e
stands_fault v BadTag bytes s = no_tag_again v bytes s
stands_fault v ZeroLength bytes s = number_again v ZeroLength bytes s
stands_fault v BadNumber bytes s = number_again v BadNumber bytes s
stands_fault v Truncated bytes s = absurd s

-- ---- one thing at most stands at the front

whole_head : {h i : Head} {m n : ℕ} → Whole h m ≡ Whole i n → h ≡ i
whole_head e = cc

whole_used : {h i : Head} {m n : ℕ} → Whole h m ≡ Whole i n → m ≡ n
whole_used e = cc

fault_is : {d e : FrameFault} → Fault d ≡ Fault e → d ≡ e
fault_is e = cc

pub one_frame : (v : Version) (f g : Frame) (bytes : List ℕ) → FrameStands v f bytes → FrameStands v g bytes → f ≡ g
one_frame v f g bytes a b =
    let same = sym (stands_whole v f bytes a) ∙ stands_whole v g bytes b in
    sym (frame_again v f bytes a) ∙ ap₂ (λ (h : Head) (n : ℕ). frame_in v h (take n bytes)) (whole_head same) (whole_used same) ∙ frame_again v g bytes b

pub one_fault : (v : Version) (d e : FrameFault) (bytes : List ℕ) → FaultStands v d bytes → FaultStands v e bytes → d ≡ e
one_fault v d e bytes a b = fault_is (sym (stands_fault v d bytes a) ∙ stands_fault v e bytes b)

pub frame_no_fault : (v : Version) (f : Frame) (e : FrameFault) (bytes : List ℕ) → FrameStands v f bytes → FaultStands v e bytes → ⊥
frame_no_fault v f e bytes a b = let both = sym (stands_whole v f bytes a) ∙ stands_fault v e bytes b in cc

pub only_frame : (v : Version) (f : Frame) (bytes : List ℕ) → FrameStands v f bytes → OnlyFrame v f bytes
only_frame v f bytes s = record { stands = s; same = λ g t. one_frame v g f bytes t s; no_fault = λ e t. frame_no_fault v f e bytes s t }

pub only_fault : (v : Version) (e : FrameFault) (bytes : List ℕ) → FaultStands v e bytes → OnlyFault v e bytes
only_fault v e bytes s = record { stands = s; same = λ d t. one_fault v d e bytes t s; no_frame = λ f t. frame_no_fault v f e bytes t s }

pub needs_open : (v : Version) (bytes : List ℕ) (n : ℕ) → scan_of v bytes ≡ Needs n → IsOpen v bytes
needs_open v bytes n e = record {
  no_frame = λ f s. let both = sym (stands_whole v f bytes s) ∙ e in absurd cc;
  no_fault = λ d s. let both = sym (stands_fault v d bytes s) ∙ e in absurd cc;
}

-- ---- what is read stands

-- what is needed stays needed until it is there
needs_more : (v : Version) (bytes : List ℕ) (n : ℕ) → length bytes < n → n ≤ max_frame v → ((ys : List ℕ) → length (bytes ++ ys) < n → scan_of v (bytes ++ ys) ≡ Needs n) → NeedsMore v bytes n
needs_more v bytes n short small more = record {
  short = short;
  small = small;
  more = λ ys lt. needs_open v (bytes ++ ys) n (more ys lt);
  again = more;
  now_open = subst (IsOpen v) (append-nil bytes) (needs_open v (bytes ++ []) n (more [] (omega (arith, length-append bytes []))));
}

-- what is left of a number's bytes is read as the number
pub header_back : (v : Version) (k : Kind) (c : Channel) (rest : List ℕ) → IsBytes rest → width_len (width_of v k) ≤ length rest
    → tag_of k c ∷ rest ≡ header v k c (number_in (width_of v k) (take (width_len (width_of v k)) rest)) ++ drop (width_len (width_of v k)) rest
header_back v k c rest fits long =
    let w = width_len (width_of v k) in
    let front = (wide_of v k).back (take w rest) (omega (arith, length-take w rest)) (IsBytes-take w rest fits) in
    ap (λ (x : List ℕ). tag_of k c ∷ x) (sym (take-append-drop w rest) ∙ ap (λ (x : List ℕ). x ++ drop w rest) (sym front))

-- a head in range and a body of its length are those of the frame
with_valid : (v : Version) (k : Kind) (c : Channel) (n : ℕ) (body : List ℕ) → has v k ≡ true → IsInRange v k n → length body ≡ body_len k n → IsValid v (frame_with k c n body)
with_valid v kinds.Send c n body known r e = (refl, subst (λ (m : ℕ). IsInRange v kinds.Send m) (sym e) r)
with_valid v kinds.Issue c n body known r e = (refl, r)
with_valid v kinds.Absolve c n body known r e = (refl, r)
with_valid v kinds.Plead c n body known r e = (refl, r)
with_valid v kinds.LimitSending c n body known r e = (refl, r)
with_valid v kinds.LimitReceiving c n body known r e = (refl, r)
with_valid v kinds.Finish c n body known r e = (known, (omega arith, omega arith))

with_encoding : (v : Version) (k : Kind) (c : Channel) (n : ℕ) (body : List ℕ) → length body ≡ body_len k n → header v k c n ++ body ≡ encoding v (frame_with k c n body)
with_encoding v kinds.Send c n body e = ap (λ (m : ℕ). header v kinds.Send c m ++ body) (sym e)
with_encoding v kinds.Issue c n body e = ap (λ (x : List ℕ). header v kinds.Issue c n ++ x) (nil_from_length body e)
with_encoding v kinds.Absolve c n body e = ap (λ (x : List ℕ). header v kinds.Absolve c n ++ x) (nil_from_length body e)
with_encoding v kinds.Plead c n body e = ap (λ (x : List ℕ). header v kinds.Plead c n ++ x) (nil_from_length body e)
with_encoding v kinds.LimitSending c n body e = ap (λ (x : List ℕ). header v kinds.LimitSending c n ++ x) (nil_from_length body e)
with_encoding v kinds.LimitReceiving c n body e = ap (λ (x : List ℕ). header v kinds.LimitReceiving c n ++ x) (nil_from_length body e)
with_encoding v kinds.Finish c n body e = ap (λ (x : List ℕ). header v kinds.Finish c n ++ x) (nil_from_length body e)

pub body_found : (v : Version) (k : Kind) (c : Channel) (n : ℕ) (rest bytes : List ℕ) → has v k ≡ true → IsInRange v k n → bytes ≡ header v k c n ++ rest → body_len k n ≤ length rest
    → FindsFrame v (record { kind = k; channel = c; number = n }) (header_len v k + body_len k n) bytes
body_found v k c n rest bytes known r e long =
    let h : Head = record { kind = k; channel = c; number = n } in
    let len = body_len k n in
    let used = header_len v k + len in
    let body = take len rest in
    let count = length-header v k c n in
    let fills : length body ≡ len = length-take-le len rest long in
    let text : take used bytes ≡ header v k c n ++ body = ap (λ (x : List ℕ). take used x) e ∙ ap (λ (m : ℕ). take (m + len) (header v k c n ++ rest)) (sym count) ∙ take-append-add (header v k c n) rest len in
    let is : frame_in v h (take used bytes) ≡ frame_with k c n body = ap (λ (x : List ℕ). frame_in v h x) text ∙ ap (λ (x : List ℕ). frame_with k c n x) (drop_at (header v k c n) body (header_len v k) count) in
    let whole : header v k c n ++ body ≡ encoding v (frame_with k c n body) = with_encoding v k c n body fills in
    let stands : FrameStands v (frame_with k c n body) bytes = record {
      valid = with_valid v k c n body known r fills;
      rest = drop len rest;
      is = e ∙ ap (λ (x : List ℕ). header v k c n ++ x) (sym (take-append-drop len rest)) ∙ sym (append_assoc (header v k c n) body (drop len rest)) ∙ ap (λ (x : List ℕ). x ++ drop len rest) whole;
    } in
    record {
      only = subst (λ (f : Frame). OnlyFrame v f bytes) (sym is) (only_frame v (frame_with k c n body) bytes stands);
      used_is = sym (ap (λ (f : Frame). length (encoding v f)) is ∙ sym (ap length whole) ∙ omega (arith, length-append (header v k c n) body, count, fills));
      in_range = r;
      within = omega (arith, ap length e, length-append (header v k c n) rest, count);
      small = small_of v k n r;
      begins = omega arith;
    }

-- behind a number in range
finds_body : (v : Version) (k : Kind) (c : Channel) (n : ℕ) (rest bytes : List ℕ) → has v k ≡ true → IsInRange v k n → bytes ≡ header v k c n ++ rest → Finds v (scan_body v k c n rest) bytes
finds_body v k c n rest bytes known r e =
    elim (cases_lt (length rest) (body_len k n)) [
      | inl few ↦
          subst (λ (s : Scan). Finds v s bytes) (sym (short_body v k c n rest few)) (
          needs_more v bytes (header_len v k + body_len k n) (omega (arith, ap length e, length-append (header v k c n) rest, length-header v k c n)) (small_of v k n r) (λ ys lt.
          let parted : bytes ++ ys ≡ header v k c n ++ (rest ++ ys) = ap (λ (x : List ℕ). x ++ ys) e ∙ append_assoc (header v k c n) rest ys in
          ap (scan_of v) parted ∙ ranged v k c n (rest ++ ys) known r ∙ short_body v k c n (rest ++ ys) (omega (arith, ap length parted, length-append (header v k c n) (rest ++ ys), length-header v k c n))))
      | inr long ↦ subst (λ (s : Scan). Finds v s bytes) (sym (long_body v k c n rest long)) (body_found v k c n rest bytes known r e long)
    ]

-- a number out of range is a fault
pub number_fault : (v : Version) (k : Kind) (n : ℕ) (bytes : List ℕ) → NumberStands v (fault_of k n) bytes → FaultStands v (fault_of k n) bytes
number_fault v kinds.Send zero bytes s = s
number_fault v kinds.Send (suc n) bytes s = s
number_fault v kinds.Issue n bytes s = s
number_fault v kinds.Absolve n bytes s = s
number_fault v kinds.Plead n bytes s = s
number_fault v kinds.LimitSending n bytes s = s
number_fault v kinds.LimitReceiving n bytes s = s
number_fault v kinds.Finish n bytes s = s

-- behind a whole number
finds_range : (v : Version) (k : Kind) (c : Channel) (n : ℕ) (rest bytes : List ℕ) → has v k ≡ true → n < 256 ^ width_len (width_of v k) → bytes ≡ header v k c n ++ rest → (ok : Bool) → is_in_range v k n ≡ ok
    → Finds v (cond ok (scan_body v k c n rest) (Fault (fault_of k n))) bytes
finds_range v k c n rest bytes known fits e true t = finds_body v k c n rest bytes known (range_from v k n t) e
finds_range v k c n rest bytes known fits e false t =
    only_fault v (fault_of k n) bytes (number_fault v k n bytes (record {
      kind = k;
      known = known;
      channel = c;
      number = n;
      rest = rest;
      fits = fits;
      is = e;
      out = λ r. absurd (true≢false (sym (range_test v k n r) ∙ t));
      names = refl;
    }))

none_some : {X : Type 0} {x : X} → None ≡ Some x → ⊥
none_some e = cc

pub scan_tagged : (v : Version) (k : Kind) (c : Channel) (rest : List ℕ) → has v k ≡ true → scan_of v (tag_of k c ∷ rest) ≡ scan_number v k c rest
unfolding scan_of scan_tag
scan_tagged v k c rest known = rw (kind_again k c, channel_again k c, known) refl

-- behind a tag
finds_number : (v : Version) (k : Kind) (c : Channel) (rest bytes : List ℕ) → has v k ≡ true → IsBytes rest → bytes ≡ tag_of k c ∷ rest → (short : Bool) → ltb (length rest) (width_len (width_of v k)) ≡ short → Finds v (scan_number v k c rest) bytes
unfolding scan_number
finds_number v k c rest bytes known fits e true t =
    let w = width_len (width_of v k) in
    let shown : scan_number v k c rest ≡ Needs (header_len v k) = rw t refl in
    let few = ltb-true _ _ t in
    subst (λ (s : Scan). Finds v s bytes) (sym shown) (
    needs_more v bytes (header_len v k) (omega (arith, few, ap length e)) (header_small v k) (λ ys lt.
    let parted : bytes ++ ys ≡ tag_of k c ∷ (rest ++ ys) = ap (λ (x : List ℕ). x ++ ys) e in
    let still : ltb (length (rest ++ ys)) w ≡ true = lt-ltb _ _ (omega (arith, ap length parted)) in
    ap (scan_of v) parted ∙ scan_tagged v k c (rest ++ ys) known ∙ rw still refl))
finds_number v k c rest bytes known fits e false t =
    let w = width_len (width_of v k) in
    let long : w ≤ length rest = ltb-false _ _ t in
    let n : ℕ = number_in (width_of v k) (take w rest) in
    let shown : scan_number v k c rest ≡ cond (is_in_range v k n) (scan_body v k c n (drop w rest)) (Fault (fault_of k n)) = rw t refl in
    subst (λ (s : Scan). Finds v s bytes) (sym shown) (finds_range v k c n (drop w rest) bytes known ((wide_of v k).below (take w rest) (IsBytes-take w rest fits)) (e ∙ header_back v k c rest fits long) _ refl)

some_is : {X : Type 0} {x y : X} → Some x ≡ Some y → x ≡ y
some_is e = cc

-- behind a tag of the version, or of the other one
pub finds_known : (v : Version) (first : ℕ) (k : Kind) (c : Channel) (rest : List ℕ) → IsBytes rest → kind_at (first / 16) ≡ Some k → channel_at (first % 16) ≡ Some c → (known : Bool) → has v k ≡ known
    → Finds v (cond known (scan_number v k c rest) (Fault BadTag)) (first ∷ rest)
finds_known v first k c rest fits ek ec true known = finds_number v k c rest (first ∷ rest) known fits (ap (λ (b : ℕ). b ∷ rest) (tag_from first k c ek ec)) _ refl
finds_known v first k c rest fits ek ec false alien =
    only_fault v BadTag (first ∷ rest) (record {
      first = first;
      rest = rest;
      is = refl;
      no_tag = λ k' c' known e.
          let same : k ≡ k' = some_is (sym ek ∙ ap (λ (b : ℕ). kind_at (b / 16)) e ∙ kind_again k' c') in
          absurd (true≢false (sym known ∙ ap (has v) (sym same) ∙ alien));
    })

pub finds_tag : (v : Version) (first : ℕ) (rest : List ℕ) (k : Option Kind) (c : Option Channel) → IsBytes rest → kind_at (first / 16) ≡ k → channel_at (first % 16) ≡ c → Finds v (scan_tag v k c rest) (first ∷ rest)
unfolding scan_tag
finds_tag v first rest None c fits ek ec = only_fault v BadTag (first ∷ rest) (record { first = first; rest = rest; is = refl; no_tag = λ k' c' known e. absurd (none_some (sym ek ∙ ap (λ (b : ℕ). kind_at (b / 16)) e ∙ kind_again k' c')) })
finds_tag v first rest (Some k) None fits ek ec = only_fault v BadTag (first ∷ rest) (record { first = first; rest = rest; is = refl; no_tag = λ k' c' known e. absurd (none_some (sym ec ∙ ap (λ (b : ℕ). channel_at (b % 16)) e ∙ channel_again k' c')) })
finds_tag v first rest (Some k) (Some c) fits ek ec = finds_known v first k c rest fits ek ec (has v k) refl

-- nothing was read yet
frame_some : (v : Version) → 1 ≤ max_frame v
frame_some One = omega arith
frame_some Two = omega arith

pub nothing_yet : (v : Version) → NeedsMore v [] 1
unfolding scan_of
nothing_yet v = needs_more v [] 1 (omega arith) (frame_some v) (λ ys lt. ap (scan_of v) (nil_from_length ys (omega arith)))

pub finds_of : (v : Version) (bytes : List ℕ) → IsBytes bytes → Finds v (scan_of v bytes) bytes
unfolding scan_of
finds_of v [] fits = nothing_yet v
finds_of v (first ∷ rest) fits = finds_tag v first rest _ _ (IsBytes-rest first rest fits) refl refl

pub finds : (v : Version) (s : Scan) (bytes : List ℕ) → IsBytes bytes → s ≡ scan_of v bytes → Finds v s bytes
finds v s bytes fits e = subst (λ (x : Scan). Finds v x bytes) (sym e) (finds_of v bytes fits)

-- ---- lists that go on

pub frame_goes_on : (v : Version) (f : Frame) (bytes ys : List ℕ) → FrameStands v f bytes → FrameStands v f (bytes ++ ys)
frame_goes_on v f bytes ys s = record { valid = s.valid; rest = s.rest ++ ys; is = ap (λ (x : List ℕ). x ++ ys) s.is ∙ append_assoc (encoding v f) s.rest ys }

number_goes_on : (v : Version) (e : FrameFault) (bytes ys : List ℕ) → NumberStands v e bytes → NumberStands v e (bytes ++ ys)
number_goes_on v e bytes ys s = record {
  kind = s.kind;
  known = s.known;
  channel = s.channel;
  number = s.number;
  rest = s.rest ++ ys;
  fits = s.fits;
  is = ap (λ (x : List ℕ). x ++ ys) s.is ∙ append_assoc (header v s.kind s.channel s.number) s.rest ys;
  out = s.out;
  names = s.names;
}

pub fault_goes_on : (v : Version) (e : FrameFault) (bytes ys : List ℕ) → FaultStands v e bytes → FaultStands v e (bytes ++ ys)
fault_goes_on v BadTag bytes ys s = record { first = s.first; rest = s.rest ++ ys; is = ap (λ (x : List ℕ). x ++ ys) s.is; no_tag = s.no_tag }
fault_goes_on v ZeroLength bytes ys s = number_goes_on v ZeroLength bytes ys s
fault_goes_on v BadNumber bytes ys s = number_goes_on v BadNumber bytes ys s
fault_goes_on v Truncated bytes ys s = s

-- ---- laws

pub prefix_law : (v : Version) (f g : Frame) (more : List ℕ) → IsValid v f → IsValid v g → encoding v g ≡ encoding v f ++ more → f ≡ g
prefix_law v f g more vf vg e = one_frame v f g (encoding v g) (record { valid = vf; rest = more; is = e }) (record { valid = vg; rest = []; is = sym (append-nil (encoding v g)) })

alone : (v : Version) (bytes : List ℕ) (s : Scan) → Finds v s bytes → max_frame v ≤ length bytes → StandsAlone v bytes
alone v bytes (Whole head used) found long = inl (frame_in v head (take used bytes), found.only)
alone v bytes (Fault e) found long = inr (e, found)
alone v bytes (Needs n) found long = absurd (omega (arith, found.short, found.small))

pub bytes_from : (bytes : List ℕ) → All (λ b. b < 256) bytes → IsBytes bytes
bytes_from bytes all i =
    elim (cases_lt i (length bytes)) [
      | inl lt ↦ all i 0 lt
      | inr le ↦ rw (get_or_past bytes i 0 le) (omega arith)
    ]

pub alone_law : (v : Version) (bytes : List ℕ) → All (λ b. b < 256) bytes → max_frame v ≤ length bytes → StandsAlone v bytes
alone_law v bytes all long = alone v bytes (scan_of v bytes) (finds_of v bytes (bytes_from bytes all)) long

-- ---- version Two has what version One has

pub frame_fits : (v : Version) → max_frame v ≤ max_frame Two
frame_fits One = omega arith
frame_fits Two = omega arith

range_in_two : (k : Kind) (n : ℕ) → IsInRange One k n → IsInRange Two k n
range_in_two kinds.Send n r = (r.0, omega (arith, r.1))
range_in_two kinds.Issue n r = r
range_in_two kinds.Absolve n r = r
range_in_two kinds.Plead n r = r
range_in_two kinds.LimitSending n r = r
range_in_two kinds.LimitReceiving n r = r
range_in_two kinds.Finish n r = r

two_has : (k : Kind) → has Two k ≡ true
two_has kinds.Send = refl
two_has kinds.Issue = refl
two_has kinds.Absolve = refl
two_has kinds.Plead = refl
two_has kinds.LimitSending = refl
two_has kinds.LimitReceiving = refl
two_has kinds.Finish = refl

pub valid_in_two : (v : Version) (f : Frame) → IsValid v f → IsValid Two f
valid_in_two One f valid = (two_has (kind_of f), range_in_two (kind_of f) (field_of f) valid.1)
valid_in_two Two f valid = valid
