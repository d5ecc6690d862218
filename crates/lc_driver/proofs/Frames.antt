-- The bytes of frames that wait: how many there are, and those of the first.
use Rattle.std.proofs.Common.{◌≡◌, ℕ, zero, suc, ◌+◌, ◌*◌, ◌<◌, ◌≤◌, List, [], ◌∷◌, ◌++◌, length, take, drop, Some, refl, sym, ap, ◌∙◌, arith, length-append}
use Rattle.std.specs.List.{flat_map, slice_get, AllByRecursion}
use Rattle.std.proofs.lemmas.List.{length-drop, take-append-drop, take_at, drop_at, drop-drop, flat_map_more, take_more, take_all, nil_from_length}
use Rattle.std.proofs.lemmas.Option.{slice_get_within, get_or_from_slice_get}
use Rattle.std.proofs.lemmas.List.Concat.{flat_map-append, flat_map-cons}
use Rattle.std.proofs.Math.Seq.{take-add}
use Rattle.lc_frame.specs.declared.version.Version.{Version}
use Rattle.lc_frame.specs.declared.version.Version.TheVariants.{One, Two}
use Rattle.lc_frame.specs.declared.frame.Frame.{Frame}
use Rattle.lc_frame.specs.declared.frame.Frame.TheVariants.{Send, Issue, Absolve, Plead, LimitSending, LimitReceiving, Finish}
use Rattle.lc_frame.specs.Kind.{max_frame}
use Rattle.lc_frame.specs.Frame.{IsValid}
use Rattle.lc_frame.specs.Encoding.{encoding}
use Rattle.lc_frame.proofs.Fronts.{frame_fits}
use Rattle.lc_driver.specs.Writing.{IsAhead}

least_room : (version : Version) → max_frame One ≤ max_frame version
least_room One = omega arith
least_room Two = omega arith

-- no frame that is valid is longer than the longest
pub longest : (version : Version) (f : Frame) → IsValid version f → length (encoding version f) ≤ max_frame version
longest One (Send c body) v = omega arith
longest Two (Send c body) v = omega arith
longest version (Issue c n) v = omega (arith, least_room version)
longest version (Absolve c n) v = omega (arith, least_room version)
longest version (Plead c n) v = omega (arith, least_room version)
longest version (LimitSending c n) v = omega (arith, least_room version)
longest version (LimitReceiving c n) v = omega (arith, least_room version)
longest version (Finish c) v = omega (arith, least_room version)

-- one frame more is joined
take_one_more : (ws : List Frame) (i : ℕ) (f : Frame) → Some f ≡ slice_get ws i → take (i + 1) ws ≡ take i ws ++ f ∷ []
take_one_more ws i f e = take_more ws i f (slice_get_within ws i f (sym e)) ∙ ap (λ (x : Frame). take i ws ++ x ∷ []) (get_or_from_slice_get ws i f f (sym e))

pub first_of : (ws : List Frame) (f : Frame) → Some f ≡ slice_get ws 0 → ws ≡ f ∷ drop 1 ws
first_of [] f e = cc
first_of (w ∷ ws) f e = cc

-- the bytes of the first frame, and those after it
pub record IsNext (version : Version) (at len : ℕ) (given : List ℕ) (f : Frame) (ws : List Frame) : Type 0 where
  pub ahead : IsAhead version (at + len) given ws
  pub first : take len (drop at given) ≡ encoding version f

module _ (version : Version) where
  some_bytes : (f : Frame) → 0 < length (encoding version f)
  some_bytes f = omega arith

  pub all_fit : (ws : List Frame) → AllByRecursion (IsValid version) ws → length (flat_map (encoding version) ws) ≤ max_frame Two * length ws
  all_fit [] v = omega arith
  all_fit (f ∷ ws) v = omega (arith, longest version f v.0, frame_fits version, all_fit ws v.1, ap length (flat_map-cons (encoding version) f ws), length-append (encoding version f) (flat_map (encoding version) ws))

  pub no_bytes_no_frames : (ws : List Frame) → flat_map (encoding version) ws ≡ [] → ws ≡ []
  no_bytes_no_frames [] e = refl
  no_bytes_no_frames (f ∷ ws) e = absurd (omega (arith, some_bytes f, ap length e, ap length (flat_map-cons (encoding version) f ws), length-append (encoding version f) (flat_map (encoding version) ws)))

  -- the first so many and those after them
  pub length-split : (n : ℕ) (ws : List Frame) → length (flat_map (encoding version) ws) ≡ length (flat_map (encoding version) (take n ws)) + length (flat_map (encoding version) (drop n ws))
  length-split n ws = ap (λ (xs : List Frame). length (flat_map (encoding version) xs)) (sym (take-append-drop n ws)) ∙ ap length (flat_map-append (encoding version) (take n ws) (drop n ws)) ∙ length-append (flat_map (encoding version) (take n ws)) (flat_map (encoding version) (drop n ws))

  pub length-take-more : (n k : ℕ) (ws : List Frame) → length (flat_map (encoding version) (take (n + k) ws)) ≡ length (flat_map (encoding version) (take n ws)) + length (flat_map (encoding version) (take k (drop n ws)))
  length-take-more n k ws = ap (λ (xs : List Frame). length (flat_map (encoding version) xs)) (take-add n k ws) ∙ ap length (flat_map-append (encoding version) (take n ws) (take k (drop n ws))) ∙ length-append (flat_map (encoding version) (take n ws)) (flat_map (encoding version) (take k (drop n ws)))

  pub joins : (pending : List ℕ) (ws : List Frame) (i : ℕ) (f : Frame) → Some f ≡ slice_get ws i → (pending ++ flat_map (encoding version) (take i ws)) ++ encoding version f ≡ pending ++ flat_map (encoding version) (take (i + 1) ws)
  joins pending ws i f e = flat_map_more (encoding version) pending (take i ws) f ∙ ap (λ (xs : List Frame). pending ++ flat_map (encoding version) xs) (sym (take_one_more ws i f e))

  pub next_ahead : (at len : ℕ) (given : List ℕ) (f : Frame) (ws : List Frame) (joined : ℕ) → at < length given → len ≡ length (encoding version f) → drop at given ≡ flat_map (encoding version) (take joined (f ∷ ws)) → IsNext version at len given f ws
  next_ahead at len given f ws zero more same e = absurd (omega (arith, more, ap length e, length-drop at given))
  next_ahead at len given f ws (suc joined) more same e =
      let parts : drop at given ≡ encoding version f ++ flat_map (encoding version) (take joined ws) = e ∙ flat_map-cons (encoding version) f (take joined ws) in
      let count = ap length parts ∙ length-append (encoding version f) (flat_map (encoding version) (take joined ws)) in
      record {
        ahead = record {
          within = omega (arith, more, same, count, length-drop at given);
          joined = joined;
          is = sym (drop-drop len at given) ∙ ap (λ (x : List ℕ). drop len x) parts ∙ drop_at (encoding version f) (flat_map (encoding version) (take joined ws)) len (sym same);
        };
        first = ap (λ (x : List ℕ). take len x) parts ∙ take_at (encoding version f) (flat_map (encoding version) (take joined ws)) len (sym same);
      }

  -- nothing is pending where all that waits was joined: so nothing waits
  pub joined_none : (old new : List ℕ) (ws : List Frame) (place : ℕ) → new ≡ old ++ flat_map (encoding version) (take place ws) → length ws ≤ place → new ≡ [] → ws ≡ []
  joined_none old new ws place joined all nothing =
      let whole : flat_map (encoding version) (take place ws) ≡ flat_map (encoding version) ws = ap (λ (xs : List Frame). flat_map (encoding version) xs) (take_all place ws all) in
      no_bytes_no_frames ws (nil_from_length (flat_map (encoding version) ws) (omega (arith, ap length joined, ap length nothing, ap length whole, length-append old (flat_map (encoding version) (take place ws)))))
