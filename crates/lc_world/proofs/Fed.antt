-- What the reader of a line holds, and what more bytes of its stream bring.
use Rattle.std.proofs.Common.{◌≡◌, ℕ, zero, suc, ◌+◌, ◌<◌, ◌≤◌, false, List, [], ◌∷◌, ◌++◌, length, take, drop, Some, None, refl, sym, ap, ap₂, subst, ◌∙◌, inl, inr, arith}
use Rattle.std.specs.Prelude.{◌⊎◌, ◌==◌, All}
use Rattle.std.specs.List.{flat_map}
use Rattle.std.proofs.lemmas.Bool.Decides.{nat_tests}
use Rattle.std.proofs.lemmas.List.{length-drop, nil_from_length, append_cancel_left, take-append-drop}
use Rattle.std.proofs.lemmas.List.Elements.{All-take}
use Rattle.std.proofs.lemmas.List.Concat.{flat_map-cons}
use Rattle.std.proofs.Math.Seq.{take-add}
use Rattle.lc_frame.specs.declared.version.Version.{Version}
use Rattle.lc_frame.specs.declared.version.Version.TheVariants.{One, Two}
use Rattle.lc_frame.specs.declared.frame.Frame.{Frame}
use Rattle.lc_frame.specs.declared.frame.Frame.TheVariants.{Send, Issue, Absolve, Plead, LimitSending, LimitReceiving, Finish}
use Rattle.lc_frame.specs.declared.frame_fault.FrameFault.{FrameFault}
use Rattle.lc_frame.specs.Kind.{width_of}
use Rattle.lc_frame.specs.Frame.{kind_of, channel_of, field_of, body_of}
use Rattle.lc_frame.specs.Version.{greeting, version_of, IsGreetingPart}
use Rattle.lc_frame.specs.Encoding.{tag_of, number_bytes, encoding, FaultStands}
use Rattle.lc_frame.specs.Stored.{Stored, nothing_stored, stored_in, opened_as, opened, fed, before, HasFault}
use Rattle.lc_frame.specs.Splits.{Splits, frames_of, rest_of}
use Rattle.lc_frame.proofs.Bytes.{IsBytes}
use Rattle.lc_frame.proofs.Channels.{number_below}
use Rattle.lc_frame.proofs.Fronts.{bytes_from}
use Rattle.lc_frame.proofs.Stored.{opened_is, fed_fed, before_fed, each_fed, fed_fits}
use Rattle.lc_frame.proofs.Openings.{nothing_is_part}
use Rattle.lc_frame.proofs.Frames.{computed_split, joined_law}
use Rattle.lc_frame.proofs.SplitLaws.{front_law}
use Rattle.lc_world.specs.State.{Line, stream}
use Rattle.lc_world.specs.Delivery.{bytes_of, text_of, delivered}
use Rattle.lc_world.specs.Endpoint.{IsLine, stored_of}
use Rattle.lc_world.proofs.Parts.{each_behind, part_splits, reads}

-- a frame's first byte begins no greeting
no_mark : (f : Frame) → (tag_of (kind_of f) (channel_of f) == 76) ≡ false
no_mark (Send c body) = let small = number_below c in grind (arith, nat_tests)
no_mark (Issue c n) = let small = number_below c in grind (arith, nat_tests)
no_mark (Absolve c n) = let small = number_below c in grind (arith, nat_tests)
no_mark (Plead c n) = let small = number_below c in grind (arith, nat_tests)
no_mark (LimitSending c n) = let small = number_below c in grind (arith, nat_tests)
no_mark (LimitReceiving c n) = let small = number_below c in grind (arith, nat_tests)
no_mark (Finish c) = let small = number_below c in grind (arith, nat_tests)

tag_told : (f : Frame) (more : List ℕ) → version_of (tag_of (kind_of f) (channel_of f) ∷ more) ≡ Some One
tag_told f more = let none = no_mark f in rw none refl

-- bytes that tell no version yet: they are part of the greeting
record IsUntold (v : Version) (x : List ℕ) : Type 0 where
  none : version_of x ≡ None
  part : IsGreetingPart x
  short : length x ≤ length (greeting v)

nothing_untold : (v : Version) → IsUntold v []
nothing_untold v = record { none = refl; part = nothing_is_part; short = omega arith }

-- a front of a stream's text tells its version, or is part of its greeting
front_told : (v : Version) (frames : List Frame) (n : ℕ) → (version_of (take n (text_of v frames)) ≡ Some v) ⊎ IsUntold v (take n (text_of v frames))
front_told One frames zero = inr (nothing_untold One)
front_told One [] (suc n) = inr (nothing_untold One)
front_told One (f ∷ frames) (suc n) = inl (ap (λ (x : List ℕ). version_of (take (suc n) x)) (flat_map-cons (encoding One) f frames) ∙ tag_told f (take n (number_bytes (width_of One (kind_of f)) (field_of f) ++ body_of f ++ flat_map (encoding One) frames)))
front_told Two frames zero = inr (nothing_untold Two)
front_told Two frames (suc zero) = inr (record { none = refl; part = record { rest = 67 ∷ 77 ∷ 2 ∷ []; some = omega arith; is = refl }; short = omega arith })
front_told Two frames (suc (suc zero)) = inr (record { none = refl; part = record { rest = 77 ∷ 2 ∷ []; some = omega arith; is = refl }; short = omega arith })
front_told Two frames (suc (suc (suc zero))) = inr (record { none = refl; part = record { rest = 2 ∷ []; some = omega arith; is = refl }; short = omega arith })
front_told Two frames (suc (suc (suc (suc n)))) = inl refl

-- in both cases its frames are those behind the greeting
frames_told : (v : Version) (x : List ℕ) → (version_of x ≡ Some v) ⊎ IsUntold v x → frames_of (opened x) ≡ frames_of (opened_as (Some v) x)
frames_told v x (inl told) = ap frames_of (opened_is (Some v) x told)
frames_told v x (inr untold) =
    let none : drop (length (greeting v)) x ≡ [] = nil_from_length (drop (length (greeting v)) x) (omega (arith, length-drop (length (greeting v)) x, untold.short)) in
    ap frames_of (opened_is None x untold.none) ∙ sym (ap (λ (y : List ℕ). frames_of (stored_in v y)) none)

-- more bytes behind the frames of what was held, and behind what is left of it
module _ (h : Stored) (fits : IsBytes h.bytes) (more : List ℕ) where
  split : Splits h.version h.bytes (frames_of h) (rest_of h).bytes
  split = computed_split h fits

  in_front : fed h more ≡ before (frames_of h) (fed (rest_of h) more)
  in_front =
      ap (λ (x : List ℕ). fed (record { version = h.version; bytes = x }) more) split.whole
      ∙ before_fed (frames_of h) (rest_of h) more split.each

  joined : (frames_of (before (frames_of h) (fed (rest_of h) more)) ≡ frames_of h ++ frames_of (fed (rest_of h) more)) × (rest_of (before (frames_of h) (fed (rest_of h) more)) ≡ rest_of (fed (rest_of h) more))
  joined = joined_law (frames_of h) (fed (rest_of h) more) (each_fed (frames_of h) (rest_of h) more split.each)

  pub frames_behind : frames_of (fed h more) ≡ frames_of h ++ frames_of (fed (rest_of h) more)
  frames_behind = ap frames_of in_front ∙ joined.0

  pub rest_behind : rest_of (fed h more) ≡ rest_of (fed (rest_of h) more)
  rest_behind = ap rest_of in_front ∙ joined.1

-- of a line's text so many bytes more come to its reader
module _ (l new : Line) (h : IsLine l) (h' : IsLine new) (version : new.version ≡ l.version) (same : stream new ≡ stream l) (count : ℕ) (counted : delivered new ≡ delivered l + count) (all : All (λ b. b < 256) (text_of l.version (stream l))) where
  abbrev text : List ℕ
  text = text_of l.version (stream l)

  abbrev piece : List ℕ
  piece = take count (drop (delivered l) text)

  new_text : text_of new.version (stream new) ≡ text
  new_text = ap₂ text_of version same

  fed_now : fed (opened (take (delivered l) text)) piece ≡ opened (take (delivered new) (text_of new.version (stream new)))
  fed_now =
      fed_fed nothing_stored (take (delivered l) text) piece
      ∙ ap opened (sym (take-add (delivered l) count text) ∙ ap₂ (λ (n : ℕ) (x : List ℕ). take n x) (sym counted) (sym new_text))

  held_fits : IsBytes (opened (take (delivered l) text)).bytes
  held_fits = fed_fits nothing_stored (take (delivered l) text) (bytes_from (take (delivered l) text) (All-take (λ b. b < 256) (delivered l) text all))

  arrived_is : (m : Line) → IsLine m → All (λ b. b < 256) (text_of m.version (stream m)) → frames_of (opened (take (delivered m) (text_of m.version (stream m)))) ≡ m.arrived
  arrived_is m k fits = frames_told m.version _ (front_told m.version (stream m) (delivered m)) ∙ (reads m k fits).came

  -- its frames are those that arrive
  pub frames_come : (came : List Frame) → new.arrived ≡ l.arrived ++ came → frames_of (fed (stored_of l) piece) ≡ came
  frames_come came e =
      append_cancel_left l.arrived (frames_of (fed (stored_of l) piece)) came
      (ap (λ (fs : List Frame). fs ++ frames_of (fed (stored_of l) piece)) (sym (arrived_is l h all))
      ∙ (sym (frames_behind (opened (take (delivered l) text)) held_fits piece)
      ∙ (ap frames_of fed_now
      ∙ (arrived_is new h' (subst (All (λ b. b < 256)) (sym new_text) all) ∙ e))))

  -- and what is left of it is held
  pub rest_held : rest_of (fed (stored_of l) piece) ≡ stored_of new
  rest_held = sym (rest_behind (opened (take (delivered l) text)) held_fits piece) ∙ ap rest_of fed_now

-- no fault stands in what the reader of a line holds
module _ (l : Line) (h : IsLine l) (all : All (λ b. b < 256) (text_of l.version (stream l))) where
  abbrev came : List ℕ
  came = take (delivered l) (text_of l.version (stream l))

  abbrev coming : List ℕ
  coming = bytes_of l.version l.in_flight

  begun_is_no_fault : (e : FrameFault) → FaultStands l.version e (take l.begun coming) → ⊥
  begun_is_no_fault e s =
      let valid = each_behind l.version l.arrived l.in_flight h.valid in
      (front_law (Some l.version) l.in_flight [] (take l.begun coming) (drop l.begun coming) (take l.begun coming) valid (sym (take-append-drop l.begun coming)) (part_splits l.version [] l.in_flight l.begun tt valid h.order.begun)).no_fault e s

  no_fault_as : (version_of came ≡ Some l.version) ⊎ IsUntold l.version came → (e : FrameFault) → HasFault e (stored_of l) → ⊥
  no_fault_as (inl told) e s =
      begun_is_no_fault e (subst (FaultStands l.version e) (reads l h all).rest (subst (λ (x : Stored). HasFault e (rest_of x)) (opened_is (Some l.version) came told) s))
  no_fault_as (inr untold) e s = (subst (λ (x : Stored). HasFault e (rest_of x)) (opened_is None came untold.none) s).1.no_part untold.part

  pub no_fault_held : (e : FrameFault) → HasFault e (stored_of l) → ⊥
  no_fault_held e s = no_fault_as (front_told l.version (stream l) (delivered l)) e s

  -- how much of what was delivered stands behind the greeting and the frames that arrived
  stored_as : (version_of came ≡ Some l.version) ⊎ IsUntold l.version came → (length (stored_of l).bytes ≡ length (take l.begun coming)) ⊎ ((length (stored_of l).bytes ≡ length came) × (length came ≤ length (greeting l.version)))
  stored_as (inl told) = inl (ap (λ (x : Stored). length (rest_of x).bytes) (opened_is (Some l.version) came told) ∙ ap length (reads l h all).rest)
  stored_as (inr untold) = inr (ap (λ (x : Stored). length (rest_of x).bytes) (opened_is None came untold.none), untold.short)

  pub held_length : (length (stored_of l).bytes ≡ length (take l.begun coming)) ⊎ ((length (stored_of l).bytes ≡ length came) × (length came ≤ length (greeting l.version)))
  held_length = stored_as (front_told l.version (stream l) (delivered l))
