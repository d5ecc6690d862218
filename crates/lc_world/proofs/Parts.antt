-- The bytes of frames, and the frames of a front of them, behind the greeting of a stream.
use Rattle.std.proofs.Common.{◌≡◌, ℕ, ◌<◌, List, [], ◌∷◌, ◌++◌, length, take, drop, refl, sym, ap, ◌∙◌, subst, inl, inr, arith, Some}
use Rattle.std.specs.Prelude.{◌+◌, All}
use Rattle.std.specs.List.{AllByRecursion}
use Rattle.std.proofs.lemmas.List.{length-append, length-take, length-drop, take-append-drop, append-nil, nil_from_length}
use Rattle.std.proofs.lemmas.List.Elements.{All-take, All-drop}
use Rattle.std.proofs.lemmas.List.Concat.{flat_map-cons}
use Rattle.std.proofs.Math.Seq.{take-append-add, drop-append_seam}
use Rattle.lc_frame.specs.Stored.{stored_in, opened_as}
use Rattle.lc_frame.specs.declared.version.Version.{Version}
use Rattle.lc_frame.specs.declared.frame.Frame.{Frame}
use Rattle.lc_frame.specs.Version.{greeting}
use Rattle.lc_frame.specs.Frame.{IsValid}
use Rattle.lc_frame.specs.Encoding.{encoding, FrameStands}
use Rattle.lc_frame.specs.Splits.{Splits, frames_of, rest_of}
use Rattle.lc_frame.proofs.Fronts.{one_frame, frame_goes_on, bytes_from}
use Rattle.lc_frame.proofs.SplitLaws.{split_law}
use Rattle.lc_frame.proofs.Frames.{computed_split}
use Rattle.lc_world.specs.State.{Line, stream, size}
use Rattle.lc_world.specs.Delivery.{bytes_of, text_of, delivered, HasBegun, IsInOrder}
use Rattle.lc_world.specs.Endpoint.{IsLine}
use Rattle.lc_world.proofs.Bytes.{has_bytes, none_or_some, within_it, behind_it, front_bytes, nothing_came}

module _ (v : Version) where
  -- valid frames behind valid frames
  pub each_append : (xs ys : List Frame) → AllByRecursion (IsValid v) xs → AllByRecursion (IsValid v) ys → AllByRecursion (IsValid v) (xs ++ ys)
  each_append [] ys p q = q
  each_append (x ∷ xs) ys p q = (p.0, each_append xs ys p.1 q)

  pub each_first : (xs ys : List Frame) → AllByRecursion (IsValid v) (xs ++ ys) → AllByRecursion (IsValid v) xs
  each_first [] ys p = tt
  each_first (x ∷ xs) ys p = (p.0, each_first xs ys p.1)

  pub each_behind : (xs ys : List Frame) → AllByRecursion (IsValid v) (xs ++ ys) → AllByRecursion (IsValid v) ys
  each_behind [] ys p = p
  each_behind (x ∷ xs) ys p = each_behind xs ys p.1

  -- the frame stands at the front of its own bytes
  pub first_stands : (f : Frame) (rest : List Frame) → IsValid v f → FrameStands v f (bytes_of v (f ∷ rest))
  first_stands f rest valid = record { valid = valid; rest = bytes_of v rest; is = flat_map-cons (encoding v) f rest }

  -- no frame stands in fewer bytes than the first has
  no_frame : (frames : List Frame) (n : ℕ) → AllByRecursion (IsValid v) frames → HasBegun v frames n → (f : Frame) → FrameStands v f (take n (bytes_of v frames)) → ⊥
  no_frame [] n each h f s = omega (arith, ap length s.is, length-append (encoding v f) s.rest, has_bytes v f, length-take n (bytes_of v []))
  no_frame (g ∷ rest) n each h f s =
      let text : List ℕ = bytes_of v (g ∷ rest) in
      let there : FrameStands v f text = subst (FrameStands v f) (take-append-drop n text) (frame_goes_on v f (take n text) (drop n text) s) in
      let same : f ≡ g = one_frame v f g text there (first_stands g rest each.0) in
      let long : size v f ≡ size v g = ap (size v) same in
      omega (arith, ap length s.is, length-append (encoding v f) s.rest, length-take n text, h, long)

  pub part_splits : (came rest : List Frame) (n : ℕ) → AllByRecursion (IsValid v) came → AllByRecursion (IsValid v) rest → HasBegun v rest n → Splits (Some v) (bytes_of v came ++ take n (bytes_of v rest)) came (take n (bytes_of v rest))
  part_splits came rest n each others h = record { whole = refl; each = each; partial = no_frame rest n others h }

  -- so the frames of the bytes are those
  pub frames_are : (bytes : List ℕ) (frames : List Frame) (rest : List ℕ) → All (λ b. b < 256) bytes → Splits (Some v) bytes frames rest → (frames_of (stored_in v bytes) ≡ frames) × ((rest_of (stored_in v bytes)).bytes ≡ rest)
  frames_are bytes frames rest all s = split_law (Some v) (frames_of (stored_in v bytes)) frames bytes (rest_of (stored_in v bytes)).bytes rest (computed_split (stored_in v bytes) (bytes_from bytes all)) s

-- the greeting in front of them
text_behind : (l : Line) (h : IsInOrder l) → drop (length (greeting l.version)) (take (delivered l) (text_of l.version (stream l))) ≡ bytes_of l.version l.arrived ++ take l.begun (bytes_of l.version l.in_flight)
text_behind l h =
    let v : Version = l.version in
    let text : List ℕ = text_of v (stream l) in
    elim (none_or_some l.greeting_left) [
      | inl gone ↦
          ap (λ (n : ℕ). drop (length (greeting v)) (take n text)) (behind_it l h gone)
          ∙ (ap (drop (length (greeting v))) (take-append-add (greeting v) (bytes_of v (stream l)) (length (bytes_of v l.arrived) + l.begun))
          ∙ (drop-append_seam (greeting v) (take (length (bytes_of v l.arrived) + l.begun) (bytes_of v (stream l))) ∙ front_bytes l h))
      | inr some ↦
          nil_from_length (drop (length (greeting v)) (take (delivered l) text)) (omega (arith, length-drop (length (greeting v)) (take (delivered l) text), length-take (delivered l) text, within_it l h some))
          ∙ sym (nothing_came l h some)
    ]

-- what is read off the text of a line, and off the part of it that was delivered
pub record Reads (l : Line) : Type 0 where
  pub all : frames_of (opened_as (Some l.version) (text_of l.version (stream l))) ≡ stream l
  pub came : frames_of (opened_as (Some l.version) (take (delivered l) (text_of l.version (stream l)))) ≡ l.arrived
  pub rest : (rest_of (opened_as (Some l.version) (take (delivered l) (text_of l.version (stream l))))).bytes ≡ take l.begun (bytes_of l.version l.in_flight)

pub reads : (l : Line) → IsLine l → All (λ b. b < 256) (text_of l.version (stream l)) → Reads l
reads l h all =
    let v : Version = l.version in
    let text : List ℕ = text_of v (stream l) in
    let part : List ℕ = take (delivered l) text in
    let rest : List ℕ = take l.begun (bytes_of v l.in_flight) in
    let first = each_first v l.arrived l.in_flight h.valid in
    let others = each_behind v l.arrived l.in_flight h.valid in
    let cut : Splits (Some v) (drop (length (greeting v)) part) l.arrived rest =
    subst (λ (x : List ℕ). Splits (Some v) x l.arrived rest) (sym (text_behind l h.order)) (part_splits v l.arrived l.in_flight l.begun first others h.order.begun) in
    let whole : Splits (Some v) (drop (length (greeting v)) text) (stream l) [] =
    subst (λ (x : List ℕ). Splits (Some v) x (stream l) []) (append-nil (bytes_of v (stream l)) ∙ sym (drop-append_seam (greeting v) (bytes_of v (stream l)))) (part_splits v (stream l) [] 0 h.valid tt refl) in
    let fits = All-drop (λ b. b < 256) (length (greeting v)) text all in
    let part_fits = All-drop (λ b. b < 256) (length (greeting v)) part (All-take (λ b. b < 256) (delivered l) text all) in
    let came = frames_are v (drop (length (greeting v)) part) l.arrived rest part_fits cut in
    record { all = (frames_are v (drop (length (greeting v)) text) (stream l) [] fits whole).0; came = came.0; rest = came.1 }
