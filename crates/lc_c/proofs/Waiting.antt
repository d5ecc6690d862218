-- The bytes of frames that wait: how many there are, and those of the first.
use Rattle.std.proofs.Common.{◌≡◌, ℕ, ◌+◌, ◌<◌, ◌≤◌, List, [], ◌∷◌, ◌++◌, length, take, drop, Some, sym, ap, ◌∙◌, arith, length-append}
use Rattle.std.specs.List.{flat_map, slice_get}
use Rattle.std.proofs.lemmas.List.{take-append-drop, take_more}
use Rattle.std.proofs.lemmas.Option.{slice_get_within, get_or_from_slice_get}
use Rattle.std.proofs.lemmas.List.Concat.{flat_map-append, flat_map-cons}
use Rattle.std.proofs.Math.Seq.{take-add}
use Rattle.lc_frame.specs.declared.frame.Frame.{Frame}
use Rattle.lc_frame.specs.declared.frame.Frame.TheVariants.{Send, Issue, Absolve, Plead, LimitSending, LimitReceiving, Finish}
use Rattle.lc_frame.specs.declared.version.Version.{Version}
use Rattle.lc_frame.specs.declared.version.Version.TheVariants.{One, Two}
use Rattle.lc_frame.specs.Kind.{max_frame}
use Rattle.lc_frame.specs.Frame.{IsValid}
use Rattle.lc_frame.specs.Encoding.{encoding}

pub longest : (version : Version) (f : Frame) → IsValid version f → length (encoding version f) ≤ max_frame Two
longest One (Send c body) v = omega arith
longest Two (Send c body) v = omega arith
longest version (Issue c n) v = omega arith
longest version (Absolve c n) v = omega arith
longest version (Plead c n) v = omega arith
longest version (LimitSending c n) v = omega arith
longest version (LimitReceiving c n) v = omega arith
longest version (Finish c) v = omega arith

pub first_of : (ws : List Frame) (f : Frame) → Some f ≡ slice_get ws 0 → ws ≡ f ∷ drop 1 ws
first_of [] f e = cc
first_of (w ∷ ws) f e = cc

module _ (version : Version) where
  pub some_bytes : (f : Frame) → 0 < length (encoding version f)
  some_bytes f = omega arith

  -- the first so many and those after them
  pub length-split : (n : ℕ) (ws : List Frame) → length (flat_map (encoding version) ws) ≡ length (flat_map (encoding version) (take n ws)) + length (flat_map (encoding version) (drop n ws))
  length-split n ws = ap (λ (xs : List Frame). length (flat_map (encoding version) xs)) (sym (take-append-drop n ws)) ∙ ap length (flat_map-append (encoding version) (take n ws) (drop n ws)) ∙ length-append (flat_map (encoding version) (take n ws)) (flat_map (encoding version) (drop n ws))

  pub length-take-more : (n k : ℕ) (ws : List Frame) → length (flat_map (encoding version) (take (n + k) ws)) ≡ length (flat_map (encoding version) (take n ws)) + length (flat_map (encoding version) (take k (drop n ws)))
  length-take-more n k ws = ap (λ (xs : List Frame). length (flat_map (encoding version) xs)) (take-add n k ws) ∙ ap length (flat_map-append (encoding version) (take n ws) (take k (drop n ws))) ∙ length-append (flat_map (encoding version) (take n ws)) (flat_map (encoding version) (take k (drop n ws)))

  one_frame : (f : Frame) → length (flat_map (encoding version) (f ∷ [])) ≡ length (encoding version f)
  one_frame f = omega (arith, ap length (flat_map-cons (encoding version) f []), length-append (encoding version f) (flat_map (encoding version) []))

  -- one frame more
  pub length-one-more : (ws : List Frame) (i : ℕ) (f : Frame) → Some f ≡ slice_get ws i → length (flat_map (encoding version) (take (i + 1) ws)) ≡ length (flat_map (encoding version) (take i ws)) + length (encoding version f)
  length-one-more ws i f e =
      let more : take (i + 1) ws ≡ take i ws ++ f ∷ [] = take_more ws i f (slice_get_within ws i f (sym e)) ∙ ap (λ (x : Frame). take i ws ++ x ∷ []) (get_or_from_slice_get ws i f f (sym e)) in
      omega (arith, ap (λ (xs : List Frame). length (flat_map (encoding version) xs)) more, ap length (flat_map-append (encoding version) (take i ws) (f ∷ [])), length-append (flat_map (encoding version) (take i ws)) (flat_map (encoding version) (f ∷ [])), one_frame f)
