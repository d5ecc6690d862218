-- A number that is out of range is read where it lies.
use Rattle.std.proofs.Common.{◌≡◌, ℕ, ◌<◌, ◌^◌, false, ltb, List, ◌++◌, length, Option, Some, refl, sym, ap, subst, ◌∙◌, arith, inl, inr}
use Rattle.std.specs.Prelude.{◌⊎◌}
use Rattle.std.proofs.lemmas.Bool.{le-ltb}
use Rattle.std.proofs.lemmas.List.{take_at, length-append}
use Rattle.lc_frame.specs.declared.version.Version.{Version}
use Rattle.lc_frame.specs.declared.channel.Channel.{Channel}
use Rattle.lc_frame.specs.declared.kind.Kind.{Kind}
use Rattle.lc_frame.specs.declared.frame_fault.FrameFault.{FrameFault}
use Rattle.lc_frame.specs.declared.frame_fault.FrameFault.TheVariants.{BadTag, ZeroLength, BadNumber, Truncated}
use Rattle.lc_frame.specs.declared.progress.Progress.{Progress}
use Rattle.lc_frame.specs.declared.progress.Progress.TheVariants.{Wants, Whole, Fault, Greeted, Broken}
use Rattle.lc_frame.specs.declared.out_of_range.OutOfRange.{OutOfRange}
use Rattle.lc_frame.specs.Kind.{width_of, width_len}
use Rattle.lc_frame.specs.Encoding.{number_bytes, header, NumberStands}
use Rattle.lc_frame.specs.Stored.{Stored, FaultIn, HasFault}
use Rattle.lc_frame.specs.Progress.{known_version}
use Rattle.lc_frame.specs.Numbers.{NumberLies, NumberLiesIn, HasNumber, number_behind, number_in_front}
use Rattle.lc_frame.proofs.Bytes.{wide_of}
use Rattle.lc_frame.proofs.Tags.{kind_again, channel_again}

-- a header in front is read as its kind, channel and number
header_again : (v : Version) (k : Kind) (c : Channel) (n : ℕ) (rest : List ℕ) → n < 256 ^ width_len (width_of v k)
    → number_in_front v (header v k c n ++ rest) ≡ Some (record { kind = k; channel = c; number = n })
unfolding number_behind
header_again v k c n rest fits =
    let wide = wide_of v k in
    let len = wide.len n in
    let long : ltb (length (number_bytes (width_of v k) n ++ rest)) (width_len (width_of v k)) ≡ false = le-ltb _ _ (omega (arith, length-append (number_bytes (width_of v k) n) rest)) in
    rw (kind_again k c, channel_again k c, long, take_at (number_bytes (width_of v k) n) rest (width_len (width_of v k)) len, wide.again n fits) refl

-- where a fault of a number stands, it is read
pub number_again : (v : Version) (fault : FrameFault) (bytes : List ℕ) (s : NumberStands v fault bytes) → number_in_front v bytes ≡ Some (record { kind = s.kind; channel = s.channel; number = s.number })
number_again v fault bytes s = ap (number_in_front v) s.is ∙ header_again v s.kind s.channel s.number s.rest s.fits

pub number_lies : (v : Version) (fault : FrameFault) (bytes : List ℕ) (s : NumberStands v fault bytes) → NumberLies v (record { kind = s.kind; channel = s.channel; number = s.number }) bytes
number_lies v fault bytes s = record { known = s.known; rest = s.rest; is = s.is; out = s.out }

-- ---- behind what a decoder remembers

-- a fault that a number is
abbrev pub IsOfNumber : FrameFault → Type 0
IsOfNumber fault = (fault ≡ ZeroLength) ⊎ (fault ≡ BadNumber)

-- a read number lies there
abbrev pub Lies : Version → Progress → List ℕ → Type 0
Lies v progress bytes = (o : OutOfRange) × ((number_in_front v bytes ≡ Some o) × NumberLiesIn (known_version v progress) o bytes)

lies_of : (v : Version) (progress : Progress) (fault : FrameFault) (bytes : List ℕ) → known_version v progress ≡ Some v → NumberStands v fault bytes → Lies v progress bytes
lies_of v progress fault bytes known s =
    let o : OutOfRange = record { kind = s.kind; channel = s.channel; number = s.number } in
    (o, (number_again v fault bytes s, subst (λ (w : Option Version). NumberLiesIn w o bytes) (sym known) (number_lies v fault bytes s)))

zero_lies : (v : Version) (progress : Progress) (bytes : List ℕ) → FaultIn (known_version v progress) ZeroLength bytes → Lies v progress bytes
zero_lies v (Wants n) bytes s = lies_of v (Wants n) ZeroLength bytes refl s
zero_lies v (Whole head) bytes s = lies_of v (Whole head) ZeroLength bytes refl s
zero_lies v (Fault fault) bytes s = lies_of v (Fault fault) ZeroLength bytes refl s
zero_lies v Greeted bytes s = let both = s.0 in absurd cc
zero_lies v Broken bytes s = let both = s.0 in absurd cc

bad_lies : (v : Version) (progress : Progress) (bytes : List ℕ) → FaultIn (known_version v progress) BadNumber bytes → Lies v progress bytes
bad_lies v (Wants n) bytes s = lies_of v (Wants n) BadNumber bytes refl s
bad_lies v (Whole head) bytes s = lies_of v (Whole head) BadNumber bytes refl s
bad_lies v (Fault fault) bytes s = lies_of v (Fault fault) BadNumber bytes refl s
bad_lies v Greeted bytes s = let both = s.0 in absurd cc
bad_lies v Broken bytes s = let both = s.0 in absurd cc

lies_in : (v : Version) (progress : Progress) (bytes : List ℕ) (fault : FrameFault) → IsOfNumber fault → FaultIn (known_version v progress) fault bytes → Lies v progress bytes
lies_in v progress bytes fault of s =
    elim of [
      | inl zero ↦ zero_lies v progress bytes (subst (λ (e : FrameFault). FaultIn (known_version v progress) e bytes) zero s)
      | inr bad ↦ bad_lies v progress bytes (subst (λ (e : FrameFault). FaultIn (known_version v progress) e bytes) bad s)
    ]

-- where the fault of a number stands, what is read is that number
pub number_shown : (v : Version) (progress : Progress) (bytes : List ℕ) (h : Stored) (fault : FrameFault) → record { version = known_version v progress; bytes = bytes } ≡ h → IsOfNumber fault → HasFault fault h
    → (o : OutOfRange) × ((number_in_front v bytes ≡ Some o) × HasNumber o h)
number_shown v progress bytes h fault view of s =
    let found = lies_in v progress bytes fault of (subst (λ (x : Stored). HasFault fault x) (sym view) s) in
    (found.0, (found.1.0, subst (λ (x : Stored). HasNumber found.0 x) view found.1.1))

-- no other fault is of a number
pub not_of_number : (fault : FrameFault) → (fault ≡ BadTag) ⊎ (fault ≡ Truncated) → IsOfNumber fault → ⊥
not_of_number fault (inl tag) (inl zero) = absurd cc
not_of_number fault (inl tag) (inr bad) = absurd cc
not_of_number fault (inr cut) (inl zero) = absurd cc
not_of_number fault (inr cut) (inr bad) = absurd cc
