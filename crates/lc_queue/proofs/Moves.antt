-- Each step keeps the rule, and tells its pass what it says.
use Rattle.std.proofs.Common.{◌≡◌, ◌≢◌, ◌⊎◌, ℕ, zero, suc, ◌+◌, ◌≤◌, ◌<◌, ◌==◌, List, [], ◌∷◌, ◌++◌, length, set, sym, refl, ap, ◌∙◌, subst, ⊎_elim, inl, inr, append_assoc, length-append, arith}
use Rattle.std.specs.List.{All}
use Rattle.std.specs.Prelude.{Option as Opt, Some, None, MatchOption, IfSome}
use mathlib.Core.Option.{Option, some, none, some-ne-none, some-injective}
use lib.ListN.{get_elem?}
use Rattle.std.proofs.lemmas.List.{nil_from_length}
use Rattle.std.proofs.lemmas.List.Elements.{All-nil, All-cons, All-head, All-tail, All-push, All-weaker, filter-append}
use Rattle.crossbeam_queue.specs.Fifo.{Pushes, Pops, Forks, Merges, Learns, Held}
use Rattle.crossbeam_queue.proofs.Lists.{at_set}
use Rattle.lc_frame.specs.declared.frame.Frame.{Frame}
use Rattle.lc_frame.specs.Frame.{lane_of, IsValid}
use Rattle.lc_frame.specs.Stream.{of_lane}
use Rattle.lc_queue.specs.declared.rule.JoinedLane.{JoinedLane}
use Rattle.lc_queue.specs.declared.rule.Terms.{Terms}
use Rattle.lc_queue.specs.declared.rule.View.{View}
use Rattle.lc_queue.specs.declared.rule.View.TheVariants.{Lane, Drain, Spent}
use Rattle.lc_queue.specs.Rule.{HasEnded, Fits, KeepsLanes}
use Rattle.lc_queue.specs.Passes.{terms_of, popped_of, joined_of, no_terms, new_view, Puts, FindsFull, Takes, FindsEmpty, first_drain_cut, first_lane_cut, drain_cut, lane_cut, drain_joined}
use Rattle.lc_queue.specs.Parts.{IsBegun}
use Rattle.lc_queue.proofs.Seats.{of_lane_shorter, Each, each_set, at_end, lane-here, lane-else, reseat, reseat-else, reseat-here, some_not_none, below}

-- a new queue
pub begins : KeepsLanes [] (new_view ∷ [])
begins = record { terms = no_terms; seat = λ lane. none; drain = 0; popped = []; room = omega arith; valid = All-nil (IsValid no_terms.version); each = one }
  where
    one : (j : ℕ) (u : View) → get_elem? (new_view ∷ []) j ≡ some u → Fits no_terms (λ lane. none) 0 [] [] j u
    one zero u e = subst (Fits no_terms (λ lane. none) 0 [] [] 0) (some-injective _ _ e) (refl, refl, refl, (λ lane le. (refl, refl)), All-nil (HasEnded (λ lane. none) 0 []))
    one (suc j) u e = absurd (some-ne-none u (sym e))

-- a frame that another pass put changes nothing of this one's
grows : (terms : Terms) (seat : ℕ → Option ℕ) (drain : ℕ) (popped all : List Frame) (f : Frame) (pass : ℕ) → seat (lane_of f) ≡ some pass
    → (j : ℕ) (u : View) → j ≢ pass → Fits terms seat drain popped all j u → Fits terms seat drain popped (all ++ f ∷ []) j u
grows terms seat drain popped all f pass at j (Lane n lane put) apart h = (h.0, h.1, lane-else lane all f (λ same. apart (some-injective j pass (sym h.1 ∙ ap seat (sym same) ∙ at))) ∙ h.2)
grows terms seat drain popped all f pass at j (Drain n next taken joined) apart h = (
  h.0,
  h.1,
  h.2,
  (λ lane le. ((h.3 lane le).0, lane-else lane all f (λ same. some-ne-none pass (sym at ∙ ap seat same ∙ (h.3 lane le).0)) ∙ (h.3 lane le).1)),
  All-weaker (HasEnded seat next all) (HasEnded seat next (all ++ f ∷ [])) (λ l e. (e.0, e.1, lane-else l.lane all f (λ same. some-ne-none pass (sym at ∙ ap seat same ∙ e.0)) ∙ e.2)) joined h.4,
)
grows terms seat drain popped all f pass at j Spent apart h = tt

pub puts : (n : ℕ) (t : Terms) (pass lane : ℕ) (put : List Frame) (f : Frame) → n ≡ t.slots → lane_of f ≡ lane → IsValid t.version f → Pushes KeepsLanes n pass (Lane t lane put) f (Puts (Lane t lane put) f)
puts n t pass lane put f all_slots on good items views room h at =
    let v : View = Lane t lane put in
    let w : View = Lane t lane (put ++ f ∷ []) in
    let all : List Frame = h.popped ++ items in
    let mine : Fits h.terms h.seat h.drain h.popped all pass v = h.each pass v at in
    let seated : h.seat (lane_of f) ≡ some pass = ap h.seat on ∙ mine.1 in
    let F : ℕ → View → Type 0 = Fits h.terms h.seat h.drain h.popped (all ++ f ∷ []) in
    let next : Each F (set views pass w) = each_set F views pass w (mine.0, mine.1, lane-here lane all f on ∙ ap (λ ys. ys ++ f ∷ []) mine.2) (λ j u apart e. grows h.terms h.seat h.drain h.popped all f pass seated j u apart (h.each j u e)) in (
      w,
      record {
        terms = h.terms;
        seat = h.seat;
        drain = h.drain;
        popped = h.popped;
        room = omega (arith, all_slots, ap (λ (x : Terms). x.slots) mine.0, length-append items (f ∷ []));
        valid = All-push (IsValid h.terms.version) items f h.valid (subst (λ (x : Terms). IsValid x.version f) mine.0 good);
        each = subst (λ now. Each (Fits h.terms h.seat h.drain h.popped now) (set views pass w)) (append_assoc h.popped items (f ∷ [])) next;
      },
      refl,
    )

-- what is popped is another list, and in all the same
shifts : (terms : Terms) (seat : ℕ → Option ℕ) (drain : ℕ) (popped now all : List Frame) (j : ℕ) (u : View) → j ≢ drain → Fits terms seat drain popped all j u → Fits terms seat drain now all j u
shifts terms seat drain popped now all j (Lane n lane put) apart h = h
shifts terms seat drain popped now all j (Drain n next taken joined) apart h = absurd (apart h.1)
shifts terms seat drain popped now all j Spent apart h = tt

-- what is queued behind a frame that is popped is the rest
is_begun : (slots : ℕ) (taken : List Frame) (f : Frame) (items : List Frame) (l : JoinedLane) → length items < slots → of_lane l.lane (taken ++ f ∷ items) ≡ l.put → IsBegun slots (taken ++ f ∷ []) l
is_begun slots taken f items l few is = (
  of_lane l.lane items,
  sym (filter-append (λ g. lane_of g == l.lane) (taken ++ f ∷ []) items) ∙ ap (λ fs. of_lane l.lane fs) (append_assoc taken (f ∷ []) items) ∙ is,
  omega (arith, of_lane_shorter l.lane items),
)

pub takes : (t : Terms) (pass next : ℕ) (taken : List Frame) (joined : List JoinedLane) → Pops KeepsLanes pass (Drain t next taken joined) (Takes (Drain t next taken joined))
takes t pass next taken joined f items views h at =
    let v : View = Drain t next taken joined in
    let w : View = Drain t next (taken ++ f ∷ []) joined in
    let all : List Frame = h.popped ++ f ∷ items in
    let mine : Fits h.terms h.seat h.drain h.popped all pass v = h.each pass v at in
    let now : List Frame = h.popped ++ f ∷ [] in
    let room : length (f ∷ items) ≤ h.terms.slots = h.room in
    let told : t.slots ≡ h.terms.slots = ap (λ (x : Terms). x.slots) mine.0 in
    let begun : (l : JoinedLane) → of_lane l.lane (taken ++ f ∷ items) ≡ l.put → IsBegun t.slots (taken ++ f ∷ []) l = λ l is. is_begun t.slots taken f items l (omega arith) is in
    let F : ℕ → View → Type 0 = Fits h.terms h.seat h.drain now all in
    let each : Each F (set views pass w) = each_set F views pass w (mine.0, mine.1, ap (λ ys. ys ++ f ∷ []) mine.2, mine.3, mine.4) (λ j u apart e. shifts h.terms h.seat h.drain h.popped now all j u (λ same. apart (same ∙ sym mine.1)) (h.each j u e)) in (
      w,
      record {
        terms = h.terms;
        seat = h.seat;
        drain = h.drain;
        popped = now;
        room = omega arith;
        valid = All-tail (IsValid h.terms.version) f items h.valid;
        each = subst (λ list. Each (Fits h.terms h.seat h.drain now list) (set views pass w)) (sym (append_assoc h.popped (f ∷ []) items)) each;
      },
      (refl, subst (λ (x : Terms). IsValid x.version f) (sym mine.0) (All-head (IsValid h.terms.version) f items h.valid), All-weaker (HasEnded h.seat next all) (IsBegun t.slots (taken ++ f ∷ [])) (λ l e. begun l (sym (ap (λ ys. of_lane l.lane (ys ++ f ∷ items)) mine.2) ∙ e.2)) joined mine.4),
    )

pub finds_empty : (n : Terms) (pass next : ℕ) (taken : List Frame) (joined : List JoinedLane) → Learns KeepsLanes pass (Drain n next taken joined) (FindsEmpty (Drain n next taken joined))
finds_empty n pass next taken joined items views h at =
    let all : List Frame = h.popped ++ items in
    let mine : Fits h.terms h.seat h.drain h.popped all pass (Drain n next taken joined) = h.each pass (Drain n next taken joined) at in
    All-weaker (HasEnded h.seat next all) (λ l. of_lane l.lane (taken ++ items) ≡ l.put) (λ l e. ap (λ fs. of_lane l.lane (fs ++ items)) (sym mine.2) ∙ e.2) joined mine.4

-- lanes that ended stay so where another lane changes its pass
ended_reseat : (seat : ℕ → Option ℕ) (lane : ℕ) (o : Option ℕ) (n m : ℕ) (all : List Frame) (joined : List JoinedLane)
    → ((l : JoinedLane) → HasEnded seat n all l → l.lane ≢ lane) → n ≤ m → All (HasEnded seat n all) joined → All (HasEnded (reseat seat lane o) m all) joined
ended_reseat seat lane o n m all joined off more h = All-weaker (HasEnded seat n all) (HasEnded (reseat seat lane o) m all)
    (λ l e. let low : l.lane < n = e.1 in (reseat-else seat lane o l.lane (off l e) ∙ e.0, (omega arith), e.2)) joined h

-- the pass of the next lane is cut from the drain's, which may be told its terms where there is no lane yet
cuts : (n m : Terms) (pass next : ℕ) (taken : List Frame) (joined : List JoinedLane) → n.slots ≤ m.slots → (n ≡ m) ⊎ ((next ≡ 0) × (n.slots ≡ 0)) → Forks KeepsLanes pass (Drain n next taken joined) (Drain m (next + 1) taken joined) (Lane m next [])
cuts n m pass next taken joined most told items views h at =
    let v : View = Drain n next taken joined in
    let l : View = Drain m (next + 1) taken joined in
    let r : View = Lane m next [] in
    let all : List Frame = h.popped ++ items in
    let mine : Fits h.terms h.seat h.drain h.popped all pass v = h.each pass v at in
    let same : n ≡ h.terms = mine.0 in
    let room : length items ≤ n.slots = omega (arith, h.room, ap (λ (x : Terms). x.slots) same) in
    let none_yet : n.slots ≡ 0 → items ≡ [] = λ z. nil_from_length items (omega (arith, room, z)) in
    let vs : List View = set views pass l in
    let seat : ℕ → Option ℕ = reseat h.seat next (some (length vs)) in
    let F : ℕ → View → Type 0 = Fits m seat h.drain h.popped all in
    let now : Each F vs = each_set F views pass l (left_fits h.terms h.seat h.drain h.popped all pass n next (length vs) taken joined mine) (λ j u apart e. keeps h.terms h.seat h.drain h.popped all pass n next (length vs) taken joined mine told j u apart (h.each j u e)) in
    record {
      terms = m;
      seat = seat;
      drain = h.drain;
      popped = h.popped;
      room = omega arith;
      valid = ⊎_elim (λ (is : n ≡ m). subst (λ (x : Terms). All (IsValid x.version) items) (sym same ∙ is) h.valid)
          (λ (is : (next ≡ 0) × (n.slots ≡ 0)). subst (All (IsValid m.version)) (sym (none_yet is.1)) (All-nil (IsValid m.version))) told;
      each = λ j u e. ⊎_elim (λ was. now j u was) (λ (is : (j ≡ length vs) × (r ≡ u)). subst (λ (y : ℕ × View). F y.0 y.1) (λ i. (sym is.0 i, is.1 i)) (refl, reseat-here h.seat next (some (length vs)), (mine.3 next (omega arith)).1)) (at_end vs r u j e);
    }
  where
    left_fits : (terms : Terms) (seat : ℕ → Option ℕ) (drain : ℕ) (popped all : List Frame) (pass : ℕ) (n : Terms) (next p : ℕ) (taken : List Frame) (joined : List JoinedLane) → Fits terms seat drain popped all pass (Drain n next taken joined) → Fits m (reseat seat next (some p)) drain popped all pass (Drain m (next + 1) taken joined)
    left_fits terms seat drain popped all pass n next p taken joined f = (
      refl,
      f.1,
      f.2,
      (λ k le. let off : k ≢ next = λ (same : k ≡ next). omega arith in let there : next ≤ k = omega arith in (reseat-else seat next (some p) k off ∙ (f.3 k there).0, (f.3 k there).1)),
      ended_reseat seat next (some p) next (next + 1) all joined (λ l e same. let low : l.lane < next = e.1 in let is : l.lane ≡ next = same in omega arith) (omega arith) f.4,
    )

    keeps : (terms : Terms) (seat : ℕ → Option ℕ) (drain : ℕ) (popped all : List Frame) (pass : ℕ) (n : Terms) (next p : ℕ) (taken : List Frame) (joined : List JoinedLane) → Fits terms seat drain popped all pass (Drain n next taken joined) → (n ≡ m) ⊎ ((next ≡ 0) × (n.slots ≡ 0))
        → (j : ℕ) (u : View) → j ≢ pass → Fits terms seat drain popped all j u → Fits m (reseat seat next (some p)) drain popped all j u
    keeps terms seat drain popped all pass n next p taken joined d told j (Lane k lane put) apart f = (
      ⊎_elim (λ (is : n ≡ m). f.0 ∙ sym d.0 ∙ is) (λ (is : (next ≡ 0) × (n.slots ≡ 0)). absurd (some_not_none j (seat lane) f.1 (d.3 lane (omega (arith, is.0))).0)) told,
      reseat-else seat next (some p) lane (λ (same : lane ≡ next). some_not_none j (seat lane) f.1 (ap seat same ∙ (d.3 next (omega arith)).0)) ∙ f.1,
      f.2,
    )
    keeps terms seat drain popped all pass n next p taken joined d told j (Drain n' next' taken' joined') apart f = absurd (apart (f.1 ∙ sym d.1))
    keeps terms seat drain popped all pass n next p taken joined d told j Spent apart f = tt

pub merges : (n : Terms) (pass next : ℕ) (taken : List Frame) (joined : List JoinedLane) (other : ℕ) (m : Terms) (lane : ℕ) (put : List Frame) → Merges KeepsLanes pass (Drain n next taken joined) other (Lane m lane put) (drain_joined (Drain n next taken joined) (Lane m lane put)) Spent
merges n pass next taken joined other m lane put items views h at two at' =
    let v : View = Drain n next taken joined in
    let end : View = Lane m lane put in
    let both : View = drain_joined v end in
    let all : List Frame = h.popped ++ items in
    let mine : Fits h.terms h.seat h.drain h.popped all pass v = h.each pass v at in
    let vs : List View = set views pass both in
    let was : get_elem? views other ≡ some end = ⊎_elim (λ (x : (other ≡ pass) × (both ≡ end)). absurd (two x.0)) (λ (x : (other ≢ pass) × (get_elem? views other ≡ some end)). x.1) (at_set views pass other both end at') in
    let theirs : Fits h.terms h.seat h.drain h.popped all other end = h.each other end was in
    let seat : ℕ → Option ℕ = reseat h.seat lane none in
    let F : ℕ → View → Type 0 = Fits h.terms seat h.drain h.popped all in
    let Now : ℕ → View → Type 0 = λ j u. j ≢ other → F j u in
    let now : Each Now vs = each_set Now views pass both (λ _. both_fits h.terms h.seat h.drain h.popped all pass n next taken joined other m lane put mine theirs)
    (λ j u apart e not. keeps h.terms h.seat h.drain h.popped all pass n next taken joined other m lane put mine theirs j u apart not (h.each j u e)) in
    record { terms = h.terms; seat = seat; drain = h.drain; popped = h.popped; room = h.room; valid = h.valid; each = each_set F vs other Spent tt (λ j u apart e. now j u e apart) }
  where
    both_fits : (terms : Terms) (seat : ℕ → Option ℕ) (drain : ℕ) (popped all : List Frame) (pass : ℕ) (n : Terms) (next : ℕ) (taken : List Frame) (joined : List JoinedLane) (other : ℕ) (m : Terms) (l : ℕ) (put : List Frame) → Fits terms seat drain popped all pass (Drain n next taken joined) → Fits terms seat drain popped all other (Lane m l put)
        → Fits terms (reseat seat l none) drain popped all pass (Drain n next taken (record { lane = l; put = put } ∷ joined))
    both_fits terms seat drain popped all pass n next taken joined other m l put d t = (
      d.0,
      d.1,
      d.2,
      (λ k le. let off : k ≢ l = λ (same : k ≡ l). some_not_none other (seat l) t.1 (ap seat (sym same) ∙ (d.3 k le).0) in (reseat-else seat l none k off ∙ (d.3 k le).0, (d.3 k le).1)),
      All-cons (HasEnded (reseat seat l none) next all) (record { lane = l; put = put }) joined
          (reseat-here seat l none, below next l (λ le. some_not_none other (seat l) t.1 (d.3 l le).0), t.2)
          (ended_reseat seat l none next next all joined (λ e ended same. some_not_none other (seat l) t.1 (ap seat (sym same) ∙ ended.0)) (omega arith) d.4),
    )

    keeps : (terms : Terms) (seat : ℕ → Option ℕ) (drain : ℕ) (popped all : List Frame) (pass : ℕ) (n : Terms) (next : ℕ) (taken : List Frame) (joined : List JoinedLane) (other : ℕ) (m : Terms) (l : ℕ) (put : List Frame) → Fits terms seat drain popped all pass (Drain n next taken joined) → Fits terms seat drain popped all other (Lane m l put)
        → (j : ℕ) (u : View) → j ≢ pass → j ≢ other → Fits terms seat drain popped all j u → Fits terms (reseat seat l none) drain popped all j u
    keeps terms seat drain popped all pass n next taken joined other m l put d t j (Lane n' k qs) apart not f = (f.0, reseat-else seat l none k (λ (same : k ≡ l). not (some-injective j other (sym f.1 ∙ ap seat same ∙ t.1))) ∙ f.1, f.2)
    keeps terms seat drain popped all pass n next taken joined other m l put d t j (Drain n' next' taken' joined') apart not f = absurd (apart (f.1 ∙ sym d.1))
    keeps terms seat drain popped all pass n next taken joined other m l put d t j Spent apart not f = tt

-- the same of a view that is known to be one of these
pub puts_as : (n : ℕ) (t : Terms) (pass lane : ℕ) (put : List Frame) (f : Frame) (v : View) → n ≡ t.slots → v ≡ Lane t lane put → lane_of f ≡ lane → IsValid t.version f → Pushes KeepsLanes n pass v f (Puts v f) × Learns KeepsLanes pass v (FindsFull v)
puts_as n t pass lane put f v all is on good = subst (λ (u : View). Pushes KeepsLanes n pass u f (Puts u f) × Learns KeepsLanes pass u (FindsFull u)) (sym is) (puts n t pass lane put f all on good, λ items views h at. tt)

pub takes_as : (n : Terms) (pass next : ℕ) (taken : List Frame) (joined : List JoinedLane) (v : View) → v ≡ Drain n next taken joined → Pops KeepsLanes pass v (Takes v) × Learns KeepsLanes pass v (FindsEmpty v)
takes_as n pass next taken joined v is = subst (λ (u : View). Pops KeepsLanes pass u (Takes u) × Learns KeepsLanes pass u (FindsEmpty u)) (sym is) (takes n pass next taken joined, finds_empty n pass next taken joined)

-- what a pop that takes says of the lanes that were joined, by the view after it
pub begun_as : (o : Opt Frame) (n : ℕ) (v w : View) → (terms_of v).slots ≡ n → MatchOption o ((w ≡ v) × Held 0 (FindsEmpty v)) (λ f. Takes v f w) → IfSome o (λ _. All (IsBegun n (popped_of w)) (joined_of w))
begun_as (Some f) n v w same h = subst (λ (y : ℕ × View). All (IsBegun y.0 (popped_of y.1)) (joined_of y.1)) (λ i. (same i, sym h.0 i)) h.2
begun_as None n v w same h = tt

pub cuts_first_as : (terms : Terms) (pass : ℕ) (v : View) → v ≡ new_view → Forks KeepsLanes pass v (first_drain_cut terms v) (first_lane_cut terms v)
cuts_first_as terms pass v is = subst (λ (u : View). Forks KeepsLanes pass u (first_drain_cut terms u) (first_lane_cut terms u)) (sym is) (cuts no_terms terms pass 0 [] [] (omega arith) (inr (refl, refl)))

pub cuts_as : (n : Terms) (pass next : ℕ) (taken : List Frame) (joined : List JoinedLane) (v : View) → v ≡ Drain n next taken joined → Forks KeepsLanes pass v (drain_cut v) (lane_cut v)
cuts_as n pass next taken joined v is = subst (λ (u : View). Forks KeepsLanes pass u (drain_cut u) (lane_cut u)) (sym is) (cuts n n pass next taken joined (omega arith) (inl refl))

pub merges_as : (n : Terms) (pass next : ℕ) (taken : List Frame) (joined : List JoinedLane) (v : View) (other : ℕ) (m : Terms) (lane : ℕ) (put : List Frame) (u : View) → v ≡ Drain n next taken joined → u ≡ Lane m lane put → Merges KeepsLanes pass v other u (drain_joined v u) Spent
merges_as n pass next taken joined v other m lane put u is is' = subst (λ (y : View × View). Merges KeepsLanes pass y.0 other y.1 (drain_joined y.0 y.1) Spent) (λ i. (sym is i, sym is' i)) (merges n pass next taken joined other m lane put)
