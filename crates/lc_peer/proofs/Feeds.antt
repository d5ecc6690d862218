-- What a decoder takes of a piece, by what stands at the front of the bytes.
use Rattle.std.proofs.Common.{◌≡◌, ℕ, ◌-◌, ◌<◌, ◌≤◌, List, [], ◌∷◌, ◌++◌, length, take, drop, sym, ap, subst, ◌∙◌, inl, inr, arith}
use Rattle.std.proofs.lemmas.Bool.{cases_lt}
use Rattle.std.proofs.lemmas.List.{append-nil, length-append, length-take, length-take-le, take_all, take-append-drop, length-drop}
use Rattle.std.proofs.Math.Seq.{take-append_seam, take-add}
use Rattle.lc_frame.specs.declared.version.Version.{Version}
use Rattle.lc_frame.specs.declared.frame.Frame.{Frame}
use Rattle.lc_frame.specs.declared.frame_fault.FrameFault.{FrameFault}
use Rattle.lc_frame.specs.Encoding.{encoding, FrameStands}
use Rattle.lc_frame.specs.Stored.{Stored, stored_in, fed, front, HasFrame, HasFault, IsUndecided, IsDecided}
use Rattle.lc_frame.specs.Progress.{Feeds}
use Rattle.lc_frame.proofs.Stored.{fed_fed, fed_settled, has_frame_goes_on, has_fault_goes_on, has_one_frame, has_one_fault, has_never_both, one_more_front}
use Rattle.lc_frame.proofs.Openings.{undecided_not}

known_goes_on : (h : Stored) (ys : List ℕ) → IsDecided h → IsUndecided (fed h ys) → ⊥
known_goes_on h ys (inl k) o = o.no_frame k.0 (has_frame_goes_on k.0 h ys k.1)
known_goes_on h ys (inr k) o = o.no_fault k.0 (has_fault_goes_on k.0 h ys k.1)

-- the bytes of a list up to the last of its first so many
last_of : (n : ℕ) (piece : List ℕ) → 0 < n → n ≤ length piece → (b : ℕ) × (take n piece ≡ take (n - 1) piece ++ b ∷ [])
last_of n piece some le = one (take 1 (drop (n - 1) piece)) (take (n - 1) piece) (take n piece) (ap (λ (m : ℕ). take m piece) (omega arith) ∙ take-add (n - 1) 1 piece) (omega (arith, length-take 1 (drop (n - 1) piece), length-drop (n - 1) piece))
  where
    one : (xs front all : List ℕ) → all ≡ front ++ xs → length xs ≡ 1 → (b : ℕ) × (all ≡ front ++ b ∷ [])
    one [] front all e len = absurd (omega (arith, len))
    one (b ∷ []) front all e len = (b, e)
    one (b ∷ c ∷ xs) front all e len = absurd (omega (arith, len))

module _ (old new : Stored) (piece : List ℕ) (n : ℕ) (feeds : Feeds old new piece n) where
  whole : fed new (drop n piece) ≡ fed old piece
  whole = ap (λ (h : Stored). fed h (drop n piece)) feeds.held ∙ fed_fed old (take n piece) (drop n piece) ∙ ap (fed old) (take-append-drop n piece)

  pub ends : n ≡ length piece → new ≡ fed old piece
  ends e = feeds.held ∙ ap (fed old) (take_all n piece (omega arith))

  -- where nothing stands the whole piece is taken
  pub takes_all : IsUndecided (fed old piece) → n ≡ length piece
  takes_all o = elim (cases_lt n (length piece)) [
    | inl less ↦ absurd (known_goes_on new (drop n piece) (feeds.stop less) (subst IsUndecided (sym whole) o))
    | inr more ↦ omega (arith, feeds.count)
  ]

  pub all_open : IsUndecided new → n ≡ length piece
  all_open o = elim (cases_lt n (length piece)) [
    | inl less ↦ absurd (undecided_not new o (feeds.stop less))
    | inr more ↦ omega (arith, feeds.count)
  ]

  pub grown : IsUndecided (fed old piece) → new ≡ fed old piece
  grown o = ends (takes_all o)

  -- a fault is held as soon as it is known
  same_fault : (e : FrameFault) → HasFault e (fed old piece) → IsDecided new → HasFault e new
  same_fault e s (inl k) = absurd (has_never_both k.0 e (fed old piece) (subst (HasFrame k.0) whole (has_frame_goes_on k.0 new (drop n piece) k.1)) s)
  same_fault e s (inr k) = subst (λ (d : FrameFault). HasFault d new) (has_one_fault k.0 e (fed old piece) (subst (HasFault k.0) whole (has_fault_goes_on k.0 new (drop n piece) k.1)) s) k.1

  pub holds_fault : (e : FrameFault) → HasFault e (fed old piece) → HasFault e new
  holds_fault e s = elim (cases_lt n (length piece)) [
    | inl less ↦ same_fault e s (feeds.stop less)
    | inr more ↦ subst (HasFault e) (sym (ends (omega (arith, feeds.count)))) s
  ]

  -- and no byte fewer would do
  pub shortest_fault : 0 < n → (k : ℕ) → k < length new.bytes → IsUndecided (front k new)
  shortest_fault some k less =
      let last = last_of n piece some feeds.count in
      let before = fed old (take (n - 1) piece) in
      let is : new ≡ fed before (last.0 ∷ []) = feeds.held ∙ ap (fed old) last.1 ∙ sym (fed_fed old (take (n - 1) piece) (last.0 ∷ [])) in
      subst (λ (h : Stored). IsUndecided (front k h)) (sym is)
      (one_more_front before last.0 k (fed_settled old (take (n - 1) piece)) (feeds.shortest (n - 1) (omega (arith, some))) (subst (λ (h : Stored). k < length h.bytes) is less))

-- where nothing was held, a frame at the front is taken and nothing else
module _ (v : Version) (new : Stored) (piece : List ℕ) (n : ℕ) (feeds : Feeds (stored_in v []) new piece n) (f : Frame) (stands : FrameStands v f piece) where
  fits : length (encoding v f) ≤ length piece
  fits = omega (arith, ap length stands.is, length-append (encoding v f) stands.rest)

  front_is : take (length (encoding v f)) piece ≡ encoding v f
  front_is = ap (take (length (encoding v f))) stands.is ∙ take-append_seam (encoding v f) stands.rest

  stands_alone : FrameStands v f (take (length (encoding v f)) piece)
  stands_alone = record { valid = stands.valid; rest = []; is = front_is ∙ sym (append-nil (encoding v f)) }

  no_less_frame : (g : Frame) → HasFrame g (stored_in v (take n piece)) → n < length (encoding v f) → ⊥
  no_less_frame g k less =
      let there : FrameStands v g piece = subst (λ (x : List ℕ). FrameStands v g x) (take-append-drop n piece) (has_frame_goes_on g (stored_in v (take n piece)) (drop n piece) k) in
      let same : g ≡ f = has_one_frame g f (stored_in v piece) there stands in
      omega (arith, ap length k.is, length-append (encoding v g) k.rest, length-take-le n piece feeds.count, ap (λ (h : Frame). length (encoding v h)) same, less)

  no_less_fault : (e : FrameFault) → HasFault e (stored_in v (take n piece)) → ⊥
  no_less_fault e k =
      let there : HasFault e (stored_in v piece) = subst (λ (x : List ℕ). HasFault e (stored_in v x)) (take-append-drop n piece) (has_fault_goes_on e (stored_in v (take n piece)) (drop n piece) k) in
      has_never_both f e (stored_in v piece) stands there

  no_less : IsDecided (stored_in v (take n piece)) → n < length (encoding v f) → ⊥
  no_less (inl k) less = no_less_frame k.0 k.1 less
  no_less (inr k) less = no_less_fault k.0 k.1

  pub takes_frame : n ≡ length (encoding v f)
  takes_frame = elim (cases_lt n (length (encoding v f))) [
    | inl less ↦ absurd (no_less (subst IsDecided feeds.held (feeds.stop (omega (arith, fits, less)))) less)
    | inr more ↦ elim (cases_lt (length (encoding v f)) n) [
      | inl over ↦ absurd ((feeds.shortest (length (encoding v f)) over).no_frame f stands_alone)
      | inr same ↦ omega (arith, more, same)
    ]
  ]

  pub holds_frame : new ≡ stored_in v (encoding v f)
  holds_frame = feeds.held ∙ ap (λ (x : List ℕ). stored_in v x) (ap (λ (m : ℕ). take m piece) takes_frame ∙ front_is)

-- the same where what is held is so
pub from_nothing : (v : Version) (old new : Stored) (piece : List ℕ) (n : ℕ) → old ≡ stored_in v [] → Feeds old new piece n → Feeds (stored_in v []) new piece n
from_nothing v old new piece n e feeds = subst (λ (h : Stored). Feeds h new piece n) e feeds
