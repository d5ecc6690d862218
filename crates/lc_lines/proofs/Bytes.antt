-- The bytes and the number of the messages in the outbound queue.
use Rattle.std.proofs.Common.{◌≡◌, ℕ, zero, suc, ◌+◌, ◌-◌, ◌*◌, ◌≤◌, ◌⊎◌, inl, inr, true, List, [], ◌∷◌, ◌++◌, length, drop, Some, sym, ◌∙◌, ap, subst, append_assoc, length-append, arith}
use Rattle.std.specs.Prelude.{slice_get}
use Rattle.std.proofs.lemmas.List.{append-nil}
use Rattle.std.specs.List.{AllByRecursion}
use Rattle.std.proofs.lemmas.Bool.Decides.{nat_tests}
use Rattle.lc_frame.specs.declared.version.Version.{Version}
use Rattle.lc_frame.specs.declared.version.Version.TheVariants.{One, Two}
use Rattle.lc_frame.specs.declared.channel.Channel.{Channel}
use Rattle.lc_frame.specs.declared.frame.Frame.{Frame}
use Rattle.lc_frame.specs.declared.frame.Frame.TheVariants.{Send, Issue, Absolve, Plead, LimitSending, LimitReceiving, Finish}
use Rattle.lc_frame.specs.Frame.{IsValid}
use Rattle.lc_frame.specs.Kind.{max_body}
use Rattle.lc_lines.specs.Outbound.{message_len, message_bytes, message_one, message_count, most_queued, fits, none}
use Rattle.lc_frame.specs.Bounds.{max_slots}
use Rattle.lc_lines.specs.Scheduler.{count_after, IsFew, FitsBytes, IsShort, greatest_message, most_unwritten}

pub bytes_push : (frames : List Frame) (f : Frame) → message_bytes (frames ++ f ∷ []) ≡ message_bytes frames + message_len f
bytes_push [] f = omega arith
bytes_push (g ∷ frames) f = omega (arith, bytes_push frames f)

pub count_push : (frames : List Frame) (f : Frame) → message_count (frames ++ f ∷ []) ≡ message_count frames + message_one f
count_push [] f = omega arith
count_push (g ∷ frames) f = omega (arith, count_push frames f)

pub bytes_next : (frames : List Frame) (f : Frame) → slice_get frames 0 ≡ Some f → message_bytes frames ≡ message_len f + message_bytes (drop 1 frames)
bytes_next [] f e = cc
bytes_next (g ∷ frames) f e = let same : g ≡ f = cc in ap (λ h. message_len h + message_bytes frames) same

pub count_next : (frames : List Frame) (f : Frame) → slice_get frames 0 ≡ Some f → message_count frames ≡ message_one f + message_count (drop 1 frames)
count_next [] f e = cc
count_next (g ∷ frames) f e = let same : g ≡ f = cc in ap (λ h. message_one h + message_count frames) same

pub one_small : (f : Frame) → message_one f ≤ 1
one_small (Send c body) = omega arith
one_small (Issue c n) = omega arith
one_small (Absolve c n) = omega arith
one_small (Plead c n) = omega arith
one_small (LimitSending c n) = omega arith
one_small (LimitReceiving c n) = omega arith
one_small (Finish c) = omega arith

pub count_few : (frames : List Frame) → message_count frames ≤ length frames
count_few [] = omega arith
count_few (f ∷ frames) = omega (arith, one_small f, count_few frames)

one_of : (v : Version) (f : Frame) → IsValid v f → message_one f ≤ message_len f
one_of v (Send c body) h = omega arith
one_of v (Issue c n) h = omega arith
one_of v (Absolve c n) h = omega arith
one_of v (Plead c n) h = omega arith
one_of v (LimitSending c n) h = omega arith
one_of v (LimitReceiving c n) h = omega arith
one_of v (Finish c) h = omega arith

pub count_bytes : (v : Version) (frames : List Frame) → AllByRecursion (IsValid v) frames → message_count frames ≤ message_bytes frames
count_bytes v [] h = omega arith
count_bytes v (f ∷ frames) h = omega (arith, one_of v f h.0, count_bytes v frames h.1)

-- whether a message is begun, as a number
some_begun : (begun : ℕ) → 1 - none begun ≤ begun
some_begun zero = omega arith
some_begun (suc n) = omega arith

-- a message that fits leaves bytes that fit
fits_by : (bytes count begun len some : ℕ) → count ≤ bytes → some ≤ begun → fits (bytes + begun) len ≡ true → (bytes + len + begun ≤ most_queued) ⊎ (count + 1 + some ≤ 1)
fits_by bytes count begun len some few less fit = grind (arith, nat_tests)

few_push : (v : Version) (frames : List Frame) (begun : ℕ) (c : Channel) (body : List ℕ) → AllByRecursion (IsValid v) frames → fits (message_bytes frames + begun) (length body) ≡ true → IsFew (frames ++ Send c body ∷ []) begun
few_push v frames begun c body valid fit =
    let bytes = bytes_push frames (Send c body) in
    let count = count_push frames (Send c body) in
    let by = fits_by (message_bytes frames) (message_count frames) begun (length body) (1 - none begun) (count_bytes v frames valid) (some_begun begun) fit in
    elim by [ inl few ↦ inl (omega arith) | inr one ↦ inr (omega arith) ]

-- a message that fits enters: all fit
pub fits_push : (v : Version) (frames : List Frame) (begun : ℕ) (c : Channel) (body : List ℕ) → AllByRecursion (IsValid v) frames → fits (message_bytes frames + begun) (length body) ≡ true → FitsBytes (frames ++ Send c body ∷ []) begun 0
fits_push v frames begun c body valid fit = record { older = frames ++ Send c body ∷ []; newer = []; whole = sym (append-nil (frames ++ Send c body ∷ [])); few = omega arith; fits = few_push v frames begun c body valid fit }

longest : (v : Version) → max_body v ≤ greatest_message
longest One = omega arith
longest Two = omega arith

pub short_of : (v : Version) (c : Channel) (body : List ℕ) → IsValid v (Send c body) → IsShort (Send c body)
short_of v c body valid = let len : length body ≤ max_body v = valid.1.1 in let most = longest v in omega arith

pub short_push : (frames : List Frame) (f : Frame) → AllByRecursion IsShort frames → IsShort f → AllByRecursion IsShort (frames ++ f ∷ [])
short_push [] f h short = (short, tt)
short_push (g ∷ frames) f h short = (h.0, short_push frames f h.1 short)

pub short_next : (frames : List Frame) → AllByRecursion IsShort frames → AllByRecursion IsShort (drop 1 frames)
short_next [] h = tt
short_next (g ∷ frames) h = h.1

pub short_first : (frames : List Frame) (f : Frame) → slice_get frames 0 ≡ Some f → AllByRecursion IsShort frames → IsShort f
short_first [] f e h = cc
short_first (g ∷ frames) f e h = let same : g ≡ f = cc in subst IsShort same h.0

bytes_short : (frames : List Frame) → AllByRecursion IsShort frames → message_bytes frames ≤ greatest_message * length frames
bytes_short [] h = omega arith
bytes_short (f ∷ frames) h = let one : message_len f ≤ greatest_message = h.0 in omega (arith, bytes_short frames h.1)

-- where each message is short enough, so are all together
pub bounded_by : (frames : List Frame) (slots begun : ℕ) → AllByRecursion IsShort frames → length frames ≤ slots → slots ≤ max_slots → begun ≤ greatest_message → message_bytes frames + begun ≤ most_unwritten
bounded_by frames slots begun short fit some small = omega (arith, bytes_short frames short)

count_append : (xs ys : List Frame) → message_count (xs ++ ys) ≡ message_count xs + message_count ys
count_append [] ys = omega arith
count_append (f ∷ xs) ys = omega (arith, count_append xs ys)

one_more : (count few exempt slots : ℕ) → count ≤ slots → slots ≤ max_slots → few ≡ count + 1 → count ≤ exempt → few ≤ count_after exempt
one_more count few exempt slots fit some is le = omega arith

-- a message enters by a permit
pub fits_reserved : (frames : List Frame) (begun exempt slots : ℕ) (c : Channel) (body : List ℕ) → length frames ≤ slots → slots ≤ max_slots → FitsBytes frames begun exempt → FitsBytes (frames ++ Send c body ∷ []) begun (count_after exempt)
fits_reserved frames begun exempt slots c body fit some h =
    let len : length frames ≡ length h.older + length h.newer = ap length h.whole ∙ length-append h.older h.newer in
    let within : message_count h.newer ≤ slots = omega (arith, count_few h.newer) in
    record {
      older = h.older;
      newer = h.newer ++ Send c body ∷ [];
      whole = ap (λ (xs : List Frame). xs ++ Send c body ∷ []) h.whole ∙ append_assoc h.older h.newer (Send c body ∷ []);
      few = one_more (message_count h.newer) (message_count (h.newer ++ Send c body ∷ [])) exempt slots within some (count_push h.newer (Send c body)) h.few;
      fits = h.fits;
    }

-- a frame enters that is no message
pub fits_control : (frames : List Frame) (begun exempt : ℕ) (f : Frame) → message_one f ≡ 0 → FitsBytes frames begun exempt → FitsBytes (frames ++ f ∷ []) begun exempt
fits_control frames begun exempt f none_in h = record {
  older = h.older;
  newer = h.newer ++ f ∷ [];
  whole = ap (λ (xs : List Frame). xs ++ f ∷ []) h.whole ∙ append_assoc h.older h.newer (f ∷ []);
  few = omega (arith, count_push h.newer f, h.few);
  fits = h.fits;
}

one_begun : (n : ℕ) → 1 - none n ≤ 1
one_begun n = omega arith

begun_one : (f : Frame) → 1 - none (message_len f) ≤ message_one f
begun_one (Send c body) = omega (arith, one_begun (length body))
begun_one (Issue c n) = omega arith
begun_one (Absolve c n) = omega arith
begun_one (Plead c n) = omega arith
begun_one (LimitSending c n) = omega arith
begun_one (LimitReceiving c n) = omega arith
begun_one (Finish c) = omega arith

-- where the first of the older frames leaves, its message is begun: the bytes fit as before
few_next : (f : Frame) (older : List Frame) (begun : ℕ) → IsFew (f ∷ older) begun → IsFew older (message_len f)
few_next f older begun h =
    let one = begun_one f in
    elim h [ inl few ↦ inl (omega arith) | inr lone ↦ inr (omega arith) ]

one_alone : (f : Frame) → IsFew [] (message_len f)
one_alone f = inr (omega (arith, begun_one f, one_small f))

next_by : (frames : List Frame) (f : Frame) (begun exempt : ℕ) (older newer : List Frame) → f ∷ frames ≡ older ++ newer → message_count newer ≤ exempt → IsFew older begun → FitsBytes frames (message_len f) exempt
next_by frames f begun exempt [] [] e few h = cc
next_by frames f begun exempt [] (g ∷ newer) e few h = record { older = []; newer = newer; whole = cc; few = omega arith; fits = one_alone f }
next_by frames f begun exempt (g ∷ older) newer e few h =
    let same : g ≡ f = cc in
    record { older = older; newer = newer; whole = cc; few = few; fits = few_next f older begun (subst (λ (x : Frame). IsFew (x ∷ older) begun) same h) }

-- where the first frame leaves, its message is begun: the bytes fit as before
pub fits_next : (frames : List Frame) (f : Frame) (begun exempt : ℕ) → slice_get frames 0 ≡ Some f → FitsBytes frames begun exempt → FitsBytes (drop 1 frames) (message_len f) exempt
fits_next [] f begun exempt e h = cc
fits_next (g ∷ frames) f begun exempt e h =
    let same : g ≡ f = cc in
    next_by frames f begun exempt h.older h.newer (ap (λ (x : Frame). x ∷ frames) (sym same) ∙ h.whole) h.few h.fits

less_begun : (left begun : ℕ) → left ≤ begun → 1 - none left ≤ 1 - none begun
less_begun zero begun le = omega arith
less_begun (suc n) zero le = absurd (omega arith)
less_begun (suc n) (suc m) le = omega arith

few_write : (frames : List Frame) (left begun : ℕ) → left ≤ begun → IsFew frames begun → IsFew frames left
few_write frames left begun le h =
    let less = less_begun left begun le in
    elim h [ inl few ↦ inl (omega arith) | inr lone ↦ inr (omega arith) ]

-- where less is begun, the bytes fit as before
pub fits_write : (frames : List Frame) (left begun exempt : ℕ) → left ≤ begun → FitsBytes frames begun exempt → FitsBytes frames left exempt
fits_write frames left begun exempt le h = record { older = h.older; newer = h.newer; whole = h.whole; few = h.few; fits = few_write h.older left begun le h.fits }
