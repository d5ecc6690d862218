-- The bytes of a batch: where its frames begin and end, and what is left once some of them were written.
use Rattle.std.proofs.Common.{◌≡◌, ℕ, zero, suc, ◌+◌, ◌-◌, ◌<◌, ◌≤◌, ◌⊎◌, inl, inr, List, [], ◌∷◌, ◌++◌, length, take, drop, refl, sym, ap, subst, ◌∙◌, append-nil, arith, length-append, add-one}
use Rattle.std.specs.List.{flat_map, AllByRecursion}
use Rattle.std.proofs.lemmas.List.{length-drop, length-take-le, take-append-drop, take_at, drop_at, drop-drop, drop-append-le, flat_map_more, nil_from_length}
use Rattle.std.proofs.lemmas.List.Concat.{flat_map-append, flat_map-cons}
use Rattle.std.proofs.Math.Seq.{take-add}
use Rattle.lc_frame.specs.declared.version.Version.{Version}
use Rattle.lc_frame.specs.declared.version.Version.TheVariants.{One, Two}
use Rattle.lc_frame.specs.declared.frame.Frame.{Frame}
use Rattle.lc_frame.specs.Version.{greeting}
use Rattle.lc_frame.specs.Frame.{IsValid}
use Rattle.lc_frame.specs.Encoding.{encoding, FrameStands}
use Rattle.lc_frame.specs.Decoded.{OnlyFrame}
use Rattle.lc_frame.specs.Stored.{stored_in}
use Rattle.lc_frame.specs.Splits.{frames_of}
use Rattle.lc_frame.proofs.Frames.{joined_law}
use Rattle.lc_driver.proofs.Frames.{length-split, length-take-more, no_bytes_no_frames}
use Rattle.lc_session.specs.Batch.{waiting_in, batch_of, AreWhole, EndsAt, HasBegun, LetsGo}

-- the frame behind them
pub record NextStands (version : Version) (begun : ℕ) (bytes : List ℕ) (gone end : ℕ) : Type 0 where
  pub frame : Frame
  pub stands : FrameStands version frame (drop end bytes)
  pub more : gone < length (waiting_in version begun bytes)
  pub longer : length (flat_map (encoding version) (take (gone + 1) (waiting_in version begun bytes))) ≡ length (flat_map (encoding version) (take gone (waiting_in version begun bytes))) + length (encoding version frame)

-- an end of a frame is sought: before each of the frames so far, fewer bytes stand than were written
pub record IsOnItsWay (version : Version) (begun : ℕ) (bytes : List ℕ) (written end gone : ℕ) : Type 0 where
  pub some : gone ≤ length (waiting_in version begun bytes)
  pub few : gone ≤ end
  pub end_is : end ≡ begun + length (flat_map (encoding version) (take gone (waiting_in version begun bytes)))
  pub first : (k : ℕ) → k < gone → begun + length (flat_map (encoding version) (take k (waiting_in version begun bytes))) < written

pub record IsAppended (version : Version) (begun : ℕ) (bytes more : List ℕ) (f : Frame) : Type 0 where
  pub waiting : waiting_in version begun more ≡ waiting_in version begun bytes ++ f ∷ []
  pub whole : AreWhole version begun more

-- what is left once the first so many bytes were written
pub record IsWritten (version : Version) (begun : ℕ) (bytes : List ℕ) (count left : ℕ) (others : List ℕ) : Type 0 where
  pub whole : AreWhole version left others
  pub goes : (free free' : ℕ) → LetsGo count (batch_of version begun bytes free) (batch_of version left others free')

-- the start of a stream
pub greeted : (version : Version) → AreWhole version (length (greeting version)) (greeting version)
greeted One = record { within = omega arith; whole = refl; valid = tt }
greeted Two = record { within = omega arith; whole = refl; valid = tt }

module _ (version : Version) where
  -- the bytes of valid frames have these frames
  pub frames_again : (fs : List Frame) → AllByRecursion (IsValid version) fs → frames_of (stored_in version (flat_map (encoding version) fs)) ≡ fs
  frames_again fs each =
      ap (λ (x : List ℕ). frames_of (stored_in version x)) (sym (append-nil (flat_map (encoding version) fs))) ∙ (joined_law fs (stored_in version []) each).0 ∙ append-nil fs

  each_drop : (n : ℕ) (fs : List Frame) → AllByRecursion (IsValid version) fs → AllByRecursion (IsValid version) (drop n fs)
  each_drop zero fs each = each
  each_drop (suc n) [] each = tt
  each_drop (suc n) (f ∷ fs) each = each_drop n fs each.1

  each_push : (fs : List Frame) (f : Frame) → AllByRecursion (IsValid version) fs → IsValid version f → AllByRecursion (IsValid version) (fs ++ f ∷ [])
  each_push [] f each v = (v, tt)
  each_push (g ∷ fs) f each v = (each.0, each_push fs f each.1 v)

  -- the bytes behind the first so many frames
  behind_frames : (begun : ℕ) (bytes : List ℕ) (gone : ℕ) → AreWhole version begun bytes
      → drop (begun + length (flat_map (encoding version) (take gone (waiting_in version begun bytes)))) bytes ≡ flat_map (encoding version) (drop gone (waiting_in version begun bytes))
  behind_frames begun bytes gone h =
      let ws : List Frame = waiting_in version begun bytes in
      let front : List ℕ = flat_map (encoding version) (take gone ws) in
      sym (drop-drop (length front) begun bytes)
      ∙ ap (λ (xs : List ℕ). drop (length front) xs) (h.whole ∙ ap (λ (fs : List Frame). flat_map (encoding version) fs) (sym (take-append-drop gone ws)) ∙ flat_map-append (encoding version) (take gone ws) (drop gone ws))
      ∙ drop_at front (flat_map (encoding version) (drop gone ws)) (length front) refl

  next_of : (ws : List Frame) (gone : ℕ) (rest : List Frame) → drop gone ws ≡ rest → AllByRecursion (IsValid version) rest → (bytes : List ℕ) → bytes ≡ flat_map (encoding version) rest → 0 < length bytes
      → (f : Frame) × FrameStands version f bytes × (gone < length ws) × (length (flat_map (encoding version) (take (gone + 1) ws)) ≡ length (flat_map (encoding version) (take gone ws)) + length (encoding version f))
  next_of ws gone [] e each bytes is some = absurd (omega (arith, some, ap length is))
  next_of ws gone (f ∷ rest) e each bytes is some = (
    f,
    record { valid = each.0; rest = flat_map (encoding version) rest; is = is ∙ flat_map-cons (encoding version) f rest },
    omega (arith, ap length e, length-drop gone ws),
    length-take-more version gone 1 ws
        ∙ ap (λ (n : ℕ). length (flat_map (encoding version) (take gone ws)) + n) (ap (λ (fs : List Frame). length (flat_map (encoding version) (take 1 fs))) e ∙ ap length (flat_map-cons (encoding version) f [] ∙ append-nil (encoding version f))),
  )

  pub next_stands : (begun : ℕ) (bytes : List ℕ) (gone end : ℕ) → AreWhole version begun bytes → end ≡ begun + length (flat_map (encoding version) (take gone (waiting_in version begun bytes))) → end < length bytes → NextStands version begun bytes gone end
  next_stands begun bytes gone end h at more =
      let ws : List Frame = waiting_in version begun bytes in
      let is : drop end bytes ≡ flat_map (encoding version) (drop gone ws) = ap (λ (n : ℕ). drop n bytes) at ∙ behind_frames begun bytes gone h in
      let found = next_of ws gone (drop gone ws) refl (each_drop gone ws h.valid) (drop end bytes) is (omega (arith, length-drop end bytes, more)) in
      record { frame = found.0; stands = found.1; more = found.2; longer = found.3 }

  some_bytes : (f : Frame) → 0 < length (encoding version f)
  some_bytes f = omega arith

  pub none_yet : (begun : ℕ) (bytes : List ℕ) (written : ℕ) → IsOnItsWay version begun bytes written begun 0
  none_yet begun bytes written = record { some = omega arith; few = omega arith; end_is = omega arith; first = λ k h. absurd (omega arith) }

  less_or_same : (k n : ℕ) → k ≤ n → (k < n) ⊎ (k ≡ n)
  less_or_same k n h = grind arith

  cases_last : {P : Type 0} (k n : ℕ) → k ≤ n → (k < n → P) → (k ≡ n → P) → P
  cases_last k n h less same = elim (less_or_same k n h) [ inl p ↦ less p | inr e ↦ same e ]

  pub goes_on : (begun : ℕ) (bytes : List ℕ) (written end gone used : ℕ) → IsOnItsWay version begun bytes written end gone → (n : NextStands version begun bytes gone end) → used ≡ length (encoding version n.frame) → end < written → IsOnItsWay version begun bytes written (end + used) (gone + 1)
  goes_on begun bytes written end gone used at n e before = record {
    some = omega (arith, n.more);
    few = omega (arith, at.few, e, some_bytes n.frame);
    end_is = omega (arith, at.end_is, e, n.longer);
    first = λ k h. cases_last k gone (omega (arith, h)) (λ less. at.first k less) (λ same. subst (λ (j : ℕ). begun + length (flat_map (encoding version) (take j (waiting_in version begun bytes))) < written) (sym same) (omega (arith, at.end_is, before)));
  }

  pub found : (begun : ℕ) (bytes : List ℕ) (written end gone : ℕ) → IsOnItsWay version begun bytes written end gone → written ≤ end → EndsAt version begun bytes written end gone
  found begun bytes written end gone at there = record { some = at.some; written_to = there; end_is = at.end_is; first = at.first }

  -- all frames end where the bytes do
  pub all_frames : (begun : ℕ) (bytes : List ℕ) (end gone : ℕ) → AreWhole version begun bytes → EndsAt version begun bytes (length bytes) end gone → gone ≡ length (waiting_in version begun bytes)
  all_frames begun bytes end gone h at =
      let ws : List Frame = waiting_in version begun bytes in
      let none : length (flat_map (encoding version) (drop gone ws)) ≡ 0 = omega (arith, at.end_is, at.written_to, length-split version gone ws, ap length h.whole, length-drop begun bytes, h.within) in
      omega (arith, at.some, ap length (no_bytes_no_frames version (drop gone ws) (nil_from_length (flat_map (encoding version) (drop gone ws)) none)), length-drop gone ws)

  -- the same bytes by another name
  pub stands_in : (bytes rest : List ℕ) (f : Frame) → rest ≡ bytes → FrameStands version f bytes → FrameStands version f rest
  stands_in bytes rest f e stands = subst (λ (xs : List ℕ). FrameStands version f xs) (sym e) stands

  -- a frame that was decoded is the one that stands there
  pub used_is : (bytes rest : List ℕ) (f g : Frame) (used : ℕ) → rest ≡ bytes → FrameStands version f bytes → OnlyFrame version g rest → used ≡ length (encoding version g) → used ≡ length (encoding version f)
  used_is bytes rest f g used e stands only u = u ∙ ap (λ (h : Frame). length (encoding version h)) (sym (only.same f (stands_in bytes rest f e stands)))

  -- ---- one frame more

  pub appended : (begun : ℕ) (bytes more : List ℕ) (f : Frame) → AreWhole version begun bytes → IsValid version f → more ≡ bytes ++ encoding version f → IsAppended version begun bytes more f
  appended begun bytes more f h v e =
      let ws : List Frame = waiting_in version begun bytes in
      let each = each_push ws f h.valid v in
      let behind : drop begun more ≡ flat_map (encoding version) (ws ++ f ∷ []) =
      ap (λ (xs : List ℕ). drop begun xs) e
      ∙ drop-append-le begun bytes (encoding version f) h.within
      ∙ ap (λ (xs : List ℕ). xs ++ encoding version f) h.whole
      ∙ flat_map_more (encoding version) [] ws f in
      let is : waiting_in version begun more ≡ ws ++ f ∷ [] = ap (λ (x : List ℕ). frames_of (stored_in version x)) behind ∙ frames_again (ws ++ f ∷ []) each in
      record {
        waiting = is;
        whole = record {
          within = omega (arith, h.within, ap length e, length-append bytes (encoding version f));
          whole = behind ∙ ap (λ (fs : List Frame). flat_map (encoding version) fs) (sym is);
          valid = subst (λ (fs : List Frame). AllByRecursion (IsValid version) fs) (sym is) each;
        };
      }

  -- ---- some of the bytes were written

  -- what is pending, by its parts
  pub parts : (begun : ℕ) (bytes : List ℕ) → AreWhole version begun bytes → bytes ≡ take begun bytes ++ flat_map (encoding version) (waiting_in version begun bytes)
  parts begun bytes h = sym (take-append-drop begun bytes) ∙ ap (λ (xs : List ℕ). take begun bytes ++ xs) h.whole

  -- the bytes up to the end of a frame
  up_to : (begun : ℕ) (bytes : List ℕ) (gone end : ℕ) → AreWhole version begun bytes → end ≡ begun + length (flat_map (encoding version) (take gone (waiting_in version begun bytes)))
      → take end bytes ≡ take begun bytes ++ flat_map (encoding version) (take gone (waiting_in version begun bytes))
  up_to begun bytes gone end h at =
      let ws : List Frame = waiting_in version begun bytes in
      let front : List ℕ = flat_map (encoding version) (take gone ws) in
      ap (λ (n : ℕ). take n bytes) at
      ∙ take-add begun (length front) bytes
      ∙ ap (λ (xs : List ℕ). take begun bytes ++ take (length front) xs) (h.whole ∙ ap (λ (fs : List Frame). flat_map (encoding version) fs) (sym (take-append-drop gone ws)) ∙ flat_map-append (encoding version) (take gone ws) (drop gone ws))
      ∙ ap (λ (xs : List ℕ). take begun bytes ++ xs) (take_at front (flat_map (encoding version) (drop gone ws)) (length front) refl)

  -- the bytes of the last of some frames, by the bytes before it
  last_begun : (begun : List ℕ) (earlier : List Frame) (f : Frame) (bytes rest : List ℕ) → length begun + length (flat_map (encoding version) earlier) < length bytes
      → begun ++ flat_map (encoding version) (earlier ++ f ∷ []) ≡ bytes ++ rest → HasBegun version (earlier ++ f ∷ []) rest
  last_begun begun earlier f bytes rest some is =
      let front : List ℕ = begun ++ flat_map (encoding version) earlier in
      let len : ℕ = length front in
      let short : len < length bytes = omega (arith, some, length-append begun (flat_map (encoding version) earlier)) in
      let both : front ++ encoding version f ≡ bytes ++ rest = flat_map_more (encoding version) begun earlier f ∙ is in
      record {
        earlier = earlier;
        frame = f;
        last = refl;
        written = drop len bytes;
        some = omega (arith, length-drop len bytes, short);
        whole = sym (drop_at front (encoding version f) len refl) ∙ ap (λ (xs : List ℕ). drop len xs) both ∙ drop-append-le len bytes rest (omega (arith, short));
      }

  -- the first so many frames, and one more
  one_more : (ws : List Frame) (gone : ℕ) (rest : List Frame) → drop gone ws ≡ rest → gone < length ws → (f : Frame) × (take (gone + 1) ws ≡ take gone ws ++ f ∷ [])
  one_more ws gone [] e more = absurd (omega (arith, more, ap length e, length-drop gone ws))
  one_more ws gone (f ∷ rest) e more = (f, take-add gone 1 ws ∙ ap (λ (fs : List Frame). take gone ws ++ take 1 fs) e)

  begun_last : (begun : List ℕ) (ws : List Frame) (gone : ℕ) (bytes rest : List ℕ) → gone ≤ length ws
      → ((k : ℕ) → k < gone → length begun + length (flat_map (encoding version) (take k ws)) < length bytes)
      → begun ++ flat_map (encoding version) (take gone ws) ≡ bytes ++ rest
      → (take gone ws ≡ []) ⊎ HasBegun version (take gone ws) rest
  begun_last begun ws zero bytes rest some first is = inl refl
  begun_last begun ws (suc gone) bytes rest some first is =
      let one = one_more ws gone (drop gone ws) refl (omega (arith, some)) in
      let last : take (suc gone) ws ≡ take gone ws ++ one.0 ∷ [] = ap (λ (n : ℕ). take n ws) (sym (add-one gone)) ∙ one.1 in
      inr (subst (λ (fs : List Frame). HasBegun version fs rest) (sym last)
      (last_begun begun (take gone ws) one.0 bytes rest (first gone (omega arith)) (ap (λ (fs : List Frame). begun ++ flat_map (encoding version) fs) (sym last) ∙ is)))

  pub written_off : (begun : ℕ) (bytes : List ℕ) (count end gone left : ℕ) (others : List ℕ) → AreWhole version begun bytes → count ≤ length bytes → EndsAt version begun bytes count end gone → left ≡ end - count → others ≡ drop count bytes → IsWritten version begun bytes count left others
  written_off begun bytes count end gone left others h within at left_is e =
      let ws : List Frame = waiting_in version begun bytes in
      let first : List Frame = take gone ws in
      let sum : count + left ≡ end = omega (arith, left_is, at.written_to) in
      let front = up_to begun bytes gone end h at.end_is in
      let behind : drop left others ≡ flat_map (encoding version) (drop gone ws) =
      ap (λ (xs : List ℕ). drop left xs) e ∙ drop-drop left count bytes ∙ ap (λ (n : ℕ). drop n bytes) (sum ∙ at.end_is) ∙ behind_frames begun bytes gone h in
      let is : waiting_in version left others ≡ drop gone ws = ap (λ (x : List ℕ). frames_of (stored_in version x)) behind ∙ frames_again (drop gone ws) (each_drop gone ws h.valid) in
      let text : take begun bytes ++ flat_map (encoding version) first ≡ take count bytes ++ take left others =
      sym front ∙ ap (λ (n : ℕ). take n bytes) (sym sum) ∙ take-add count left bytes ∙ ap (λ (xs : List ℕ). take count bytes ++ take left xs) (sym e) in
      let few : length (take count bytes) ≡ count = length-take-le count bytes within in
      let begun_len : length (take begun bytes) ≡ begun = length-take-le begun bytes h.within in
      record {
        whole = record {
          within = omega (arith, left_is, ap length e, length-drop count bytes, at.end_is, length-split version gone ws, ap length h.whole, length-drop begun bytes, h.within);
          whole = behind ∙ ap (λ (fs : List Frame). flat_map (encoding version) fs) (sym is);
          valid = subst (λ (fs : List Frame). AllByRecursion (IsValid version) fs) (sym is) (each_drop gone ws h.valid);
        };
        goes = λ free free'. record {
          version = refl;
          gone = first;
          written = take count bytes;
          count_is = sym few;
          waiting = sym (take-append-drop gone ws) ∙ ap (λ (fs : List Frame). first ++ fs) (sym is);
          text_is = text;
          rest = begun_last (take begun bytes) ws gone (take count bytes) (take left others) at.some (λ k less. omega (arith, at.first k less, begun_len, few)) text;
        };
      }
