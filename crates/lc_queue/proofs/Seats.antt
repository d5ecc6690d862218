-- Lists of views, a frame more in a lane, and which pass has which lane.
use Rattle.std.proofs.Common.{◌≡◌, ◌≢◌, ◌⊎◌, ℕ, zero, suc, ◌≤◌, ◌<◌, ◌==◌, Bool, true, false, cond, List, [], ◌∷◌, ◌++◌, length, set, sym, refl, ap, ◌∙◌, subst, ⊎_elim, inl, inr, append-nil, arith, eq-eqb, ne_eqb}
use mathlib.Core.Option.{Option, some, none, some-ne-none, some-injective}
use lib.ListN.{get_elem?}
use Rattle.std.proofs.lemmas.List.Elements.{filter-append}
use Rattle.crossbeam_queue.proofs.Lists.{at_set}
use Rattle.lc_frame.specs.declared.frame.Frame.{Frame}
use Rattle.lc_frame.specs.Frame.{lane_of}
use Rattle.lc_frame.specs.Stream.{of_lane}
use Rattle.lc_queue.specs.declared.rule.View.{View}

-- one frame more, in its own lane and in the others
pub lane-here : (lane : ℕ) (all : List Frame) (f : Frame) → lane_of f ≡ lane → of_lane lane (all ++ f ∷ []) ≡ of_lane lane all ++ f ∷ []
lane-here lane all f on = filter-append (λ g. lane_of g == lane) all (f ∷ []) ∙ ap (λ (b : Bool). of_lane lane all ++ cond b (f ∷ []) []) (eq-eqb (lane_of f) lane on)

pub lane-else : (lane : ℕ) (all : List Frame) (f : Frame) → lane_of f ≢ lane → of_lane lane (all ++ f ∷ []) ≡ of_lane lane all
lane-else lane all f off = filter-append (λ g. lane_of g == lane) all (f ∷ []) ∙ ap (λ (b : Bool). of_lane lane all ++ cond b (f ∷ []) []) (ne_eqb (lane_of f) lane off) ∙ append-nil (of_lane lane all)

-- a lane has at most all frames
pub of_lane_shorter : (lane : ℕ) (all : List Frame) → length (of_lane lane all) ≤ length all
of_lane_shorter lane [] = omega arith
of_lane_shorter lane (f ∷ fs) = shorter (lane_of f == lane) (of_lane_shorter lane fs)
  where
    shorter : (b : Bool) → length (of_lane lane fs) ≤ length fs → length (cond b (f ∷ of_lane lane fs) (of_lane lane fs)) ≤ length (f ∷ fs)
    shorter true h = omega arith
    shorter false h = omega arith

-- the place of one view more
pub at_end : (views : List View) (v u : View) (j : ℕ) → get_elem? (views ++ v ∷ []) j ≡ some u → (get_elem? views j ≡ some u) ⊎ ((j ≡ length views) × (v ≡ u))
at_end [] v u zero e = inr (refl, some-injective v u e)
at_end [] v u (suc j) e = absurd (some-ne-none u (sym e))
at_end (x ∷ xs) v u zero e = inl e
at_end (x ∷ xs) v u (suc j) e = ⊎_elim (λ t. inl t) (λ t. inr (ap suc t.0, t.1)) (at_end xs v u j e)

-- a fact of each view, after one changed
abbrev pub Each : (ℕ → View → Type 0) → List View → Type 0
Each F views = (j : ℕ) (u : View) → get_elem? views j ≡ some u → F j u

pub each_set : (F : ℕ → View → Type 0) (views : List View) (pass : ℕ) (w : View) → F pass w → ((j : ℕ) (u : View) → j ≢ pass → get_elem? views j ≡ some u → F j u) → Each F (set views pass w)
each_set F views pass w mine others j u e = ⊎_elim (λ (x : (j ≡ pass) × (w ≡ u)). subst (λ (y : ℕ × View). F y.0 y.1) (λ i. (sym x.0 i, x.1 i)) mine)
    (λ (x : (j ≢ pass) × (get_elem? views j ≡ some u)). others j u x.0 x.1) (at_set views pass j w u e)

-- the passes of the lanes, with one lane's changed
abbrev pub reseat : (ℕ → Option ℕ) → ℕ → Option ℕ → ℕ → Option ℕ
reseat seat lane o k = cond (k == lane) o (seat k)

pub reseat-else : (seat : ℕ → Option ℕ) (lane : ℕ) (o : Option ℕ) (k : ℕ) → k ≢ lane → reseat seat lane o k ≡ seat k
reseat-else seat lane o k off = ap (λ (b : Bool). cond b o (seat k)) (ne_eqb k lane off)

pub reseat-here : (seat : ℕ → Option ℕ) (lane : ℕ) (o : Option ℕ) → reseat seat lane o lane ≡ o
reseat-here seat lane o = ap (λ (b : Bool). cond b o (seat lane)) (eq-eqb lane lane refl)

pub some_not_none : (p : ℕ) (o : Option ℕ) → o ≡ some p → o ≡ none → ⊥
some_not_none p o a b = some-ne-none p (sym a ∙ b)

-- a lane that has a pass has its end
pub below : (n lane : ℕ) → (n ≤ lane → ⊥) → lane < n
below n lane refuted = omega arith
