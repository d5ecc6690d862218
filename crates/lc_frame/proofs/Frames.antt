-- The frames of a list of bytes as they are computed: no matter by how many turns, and what Splits says.
use Rattle.std.proofs.Common.{◌≡◌, ℕ, zero, suc, ◌+◌, ◌-◌, ◌≤◌, Bool, true, false, List, [], ◌∷◌, ◌++◌, length, take, drop, Option, Some, None, refl, sym, ap, ap₂, ◌∙◌, append_assoc, arith}
use Rattle.std.specs.Prelude.{if◌then◌else◌, nat_lt, ⊤}
use Rattle.std.specs.List.{flat_map, AllByRecursion}
use Rattle.std.specs.Option.{option_map_or}
use Rattle.std.proofs.lemmas.List.{drop_at, length-drop, length-append}
use Rattle.std.proofs.lemmas.List.Concat.{flat_map-cons}
use Rattle.lc_frame.specs.declared.version.Version.{Version}
use Rattle.lc_frame.specs.declared.channel.Channel.{Channel}
use Rattle.lc_frame.specs.declared.kind.Kind.{Kind}
use Rattle.lc_frame.specs.declared.frame.Frame.{Frame}
use Rattle.lc_frame.specs.declared.frame_fault.FrameFault.TheVariants.{BadTag}
use Rattle.lc_frame.specs.declared.scan.Scan.{Scan}
use Rattle.lc_frame.specs.declared.scan.Scan.TheVariants.{Whole, Fault, Needs}
use Rattle.lc_frame.specs.Kind.{has, width_of, width_len, is_in_range, fault_of, body_len, header_len}
use Rattle.lc_frame.specs.Frame.{IsValid}
use Rattle.lc_frame.specs.Encoding.{encoding, FrameStands}
use Rattle.lc_frame.specs.Scan.{frame_in, number_in, scan_body, scan_number, scan_tag, scan_of, Finds}
use Rattle.lc_frame.specs.Stored.{Stored, IsValidIn, encoding_in, before}
use Rattle.lc_frame.specs.Splits.{Splits, first_frame, split_in, split_as, frames_of, rest_of}
use Rattle.lc_frame.proofs.Bytes.{IsBytes, IsBytes-drop}
use Rattle.lc_frame.proofs.Fronts.{length-encoding, stands_whole, frame_again, finds_of, nothing_yet}
use Rattle.lc_frame.proofs.SplitLaws.{behind}

-- ---- a frame that a scan finds has a byte at least

abbrev UsesSome : Scan → Type 0
UsesSome (Whole head used) = 1 ≤ used
UsesSome (Fault fault) = ⊤
UsesSome (Needs need) = ⊤

uses_either : (b : Bool) (s t : Scan) → UsesSome s → UsesSome t → UsesSome (if b then s else t)
uses_either true s t p q = p
uses_either false s t p q = q

uses_body : (v : Version) (k : Kind) (c : Channel) (n : ℕ) (rest : List ℕ) → UsesSome (scan_body v k c n rest)
unfolding scan_body
uses_body v k c n rest = uses_either _ (Needs (header_len v k + body_len k n)) (Whole (record { kind = k; channel = c; number = n }) (header_len v k + body_len k n)) tt (omega arith)

uses_number : (v : Version) (k : Kind) (c : Channel) (bytes : List ℕ) → UsesSome (scan_number v k c bytes)
unfolding scan_number
uses_number v k c bytes =
    let width : ℕ = width_len (width_of v k) in
    let number : ℕ = number_in (width_of v k) (take width bytes) in
    let body : Scan = scan_body v k c number (drop width bytes) in
    let fault : Scan = Fault (fault_of k number) in
    let in_range : Bool = is_in_range v k number in
    uses_either (nat_lt (length bytes) width) (Needs (header_len v k)) (if in_range then body else fault) tt (uses_either in_range body fault (uses_body v k c number (drop width bytes)) tt)

uses_tag : (v : Version) (k : Option Kind) (c : Option Channel) (rest : List ℕ) → UsesSome (scan_tag v k c rest)
unfolding scan_tag
uses_tag v None c rest = tt
uses_tag v (Some k) None rest = tt
uses_tag v (Some k) (Some c) rest = uses_either (has v k) (scan_number v k c rest) (Fault BadTag) (uses_number v k c rest) tt

uses_some : (v : Version) (bytes : List ℕ) → UsesSome (scan_of v bytes)
unfolding scan_of
uses_some v [] = tt
uses_some v (first ∷ rest) = uses_tag v _ _ rest

-- ---- as many turns as there are bytes are enough

nothing_in_nothing : (v : Version) (n : ℕ) → split_in v n [] ≡ ([], [])
unfolding scan_of
nothing_in_nothing v zero = refl
nothing_in_nothing v (suc n) = refl

-- what a turn makes of the frame at the front
abbrev turn : Version → ℕ → List ℕ → Option (Frame × List ℕ) → List Frame × List ℕ
turn v n bytes first = option_map_or (λ p. (p.0 ∷ (split_in v n p.1).0, (split_in v n p.1).1)) first ([], bytes)

turn_steady : (v : Version) (n m : ℕ) (bytes : List ℕ) → length bytes ≤ suc n → length bytes ≤ suc m
    → ((others : List ℕ) → length others ≤ n → length others ≤ m → split_in v n others ≡ split_in v m others)
    → (s : Scan) → UsesSome s → turn v n bytes (first_frame v s bytes) ≡ turn v m bytes (first_frame v s bytes)
turn_steady v n m bytes h i steady (Whole head used) some =
    let few = length-drop used bytes in
    ap (λ (p : List Frame × List ℕ). (frame_in v head (take used bytes) ∷ p.0, p.1)) (steady (drop used bytes) (omega (arith, h, few, some)) (omega (arith, i, few, some)))
turn_steady v n m bytes h i steady (Fault fault) some = refl
turn_steady v n m bytes h i steady (Needs need) some = refl

split_steady : (v : Version) (n m : ℕ) (bytes : List ℕ) → length bytes ≤ n → length bytes ≤ m → split_in v n bytes ≡ split_in v m bytes
split_steady v zero m [] h i = sym (nothing_in_nothing v m)
split_steady v zero m (b ∷ bytes) h i = absurd (omega (arith, h))
split_steady v (suc n) zero [] h i = nothing_in_nothing v (suc n)
split_steady v (suc n) zero (b ∷ bytes) h i = absurd (omega (arith, i))
split_steady v (suc n) (suc m) bytes h i = turn_steady v n m bytes h i (split_steady v n m) (scan_of v bytes) (uses_some v bytes)

-- ---- what is computed is what Splits says

nothing_splits : (v : Version) → Splits (Some v) [] [] []
nothing_splits v = record { whole = refl; each = tt; partial = (nothing_yet v).now_open.no_frame }

turn_splits : (v : Version) (n : ℕ) (bytes : List ℕ) → IsBytes bytes → length bytes ≤ suc n
    → ((others : List ℕ) → IsBytes others → length others ≤ n → Splits (Some v) others (split_in v n others).0 (split_in v n others).1)
    → (s : Scan) → Finds v s bytes → UsesSome s → Splits (Some v) bytes (turn v n bytes (first_frame v s bytes)).0 (turn v n bytes (first_frame v s bytes)).1
turn_splits v n bytes fits h splits (Whole head used) found some =
    let f : Frame = frame_in v head (take used bytes) in
    let stands = found.only.stands in
    let rest : drop used bytes ≡ stands.rest = ap (λ (k : ℕ). drop k bytes) found.used_is ∙ ap (λ (x : List ℕ). drop (length (encoding v f)) x) stands.is ∙ drop_at (encoding v f) stands.rest (length (encoding v f)) refl in
    let p : List Frame × List ℕ = split_in v n (drop used bytes) in
    let others = splits (drop used bytes) (IsBytes-drop used bytes fits) (omega (arith, h, length-drop used bytes, some)) in
    record {
      whole = stands.is ∙ ap (λ (x : List ℕ). encoding v f ++ x) (sym rest ∙ others.whole) ∙ sym (append_assoc (encoding v f) (flat_map (encoding v) p.0) p.1) ∙ ap (λ (x : List ℕ). x ++ p.1) (sym (flat_map-cons (encoding v) f p.0));
      each = (stands.valid, others.each);
      partial = others.partial;
    }
turn_splits v n bytes fits h splits (Fault fault) found some = record { whole = refl; each = tt; partial = found.no_frame }
turn_splits v n bytes fits h splits (Needs need) found some = record { whole = refl; each = tt; partial = found.now_open.no_frame }

splits_in : (v : Version) (n : ℕ) (bytes : List ℕ) → IsBytes bytes → length bytes ≤ n → Splits (Some v) bytes (split_in v n bytes).0 (split_in v n bytes).1
splits_in v zero [] fits h = nothing_splits v
splits_in v zero (b ∷ bytes) fits h = absurd (omega (arith, h))
splits_in v (suc n) bytes fits h = turn_splits v n bytes fits h (splits_in v n) (scan_of v bytes) (finds_of v bytes fits) (uses_some v bytes)

computed_as : (version : Option Version) (bytes : List ℕ) → IsBytes bytes → Splits version bytes (split_as version bytes).0 (split_as version bytes).1
computed_as None bytes fits = record { whole = refl; each = tt; partial = λ f s. s }
computed_as (Some v) bytes fits = splits_in v (length bytes) bytes fits (omega arith)

pub computed_split : (h : Stored) → IsBytes h.bytes → Splits h.version h.bytes (frames_of h) (rest_of h).bytes
computed_split h fits = computed_as h.version h.bytes fits

-- ---- the bytes of frames, and more behind them

-- a frame and what follows it
first_split : (v : Version) (f : Frame) (more : List ℕ) → IsValid v f → split_as (Some v) (encoding v f ++ more) ≡ (f ∷ (split_as (Some v) more).0, (split_as (Some v) more).1)
first_split v f more valid =
    let bytes : List ℕ = encoding v f ++ more in
    let len : ℕ = length (encoding v f) in
    let stands : FrameStands v f bytes = record { valid = valid; rest = more; is = refl } in
    let n : ℕ = length bytes - 1 in
    let count : length bytes ≡ suc n = omega (arith, length-append (encoding v f) more, length-encoding v f) in
    let found : first_frame v (scan_of v bytes) bytes ≡ Some (f, more) =
    ap (λ (s : Scan). first_frame v s bytes) (stands_whole v f bytes stands)
    ∙ ap₂ (λ (g : Frame) (y : List ℕ). Some (g, y)) (frame_again v f bytes stands) (drop_at (encoding v f) more len refl) in
    let steady = split_steady v n (length more) more (omega (arith, length-append (encoding v f) more, length-encoding v f)) (omega arith) in
    ap (λ (k : ℕ). split_in v k bytes) count
    ∙ ap (turn v n bytes) found
    ∙ ap (λ (p : List Frame × List ℕ). (f ∷ p.0, p.1)) steady

joined_as : (version : Option Version) (fs : List Frame) (more : List ℕ) → AllByRecursion (IsValidIn version) fs
    → split_as version (flat_map (encoding_in version) fs ++ more) ≡ (fs ++ (split_as version more).0, (split_as version more).1)
joined_as version [] more each = refl
joined_as None (f ∷ fs) more each = absurd each.0
joined_as (Some v) (f ∷ fs) more each =
    let parted = behind v f fs more (flat_map (encoding v) (f ∷ fs) ++ more) refl in
    ap (split_as (Some v)) parted
    ∙ first_split v f (flat_map (encoding v) fs ++ more) each.0
    ∙ ap (λ (p : List Frame × List ℕ). (f ∷ p.0, p.1)) (joined_as (Some v) fs more each.1)

pub joined_law : (fs : List Frame) (h : Stored) → AllByRecursion (IsValidIn h.version) fs → (frames_of (before fs h) ≡ fs ++ frames_of h) × (rest_of (before fs h) ≡ rest_of h)
joined_law fs h each =
    let joined = joined_as h.version fs h.bytes each in
    (ap (λ (p : List Frame × List ℕ). p.0) joined, ap (λ (p : List Frame × List ℕ). record { version = h.version; bytes = p.1 }) joined)
