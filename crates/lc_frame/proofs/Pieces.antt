-- A list of bytes that grows piece by piece, and what is known of it.
use Rattle.std.proofs.Common.{◌≡◌, ℕ, ◌+◌, ◌-◌, ◌<◌, ◌≤◌, List, [], ◌++◌, length, take, drop, refl, sym, ap, subst, ◌∙◌, append_assoc, arith, inl, inr}
use Rattle.std.proofs.lemmas.Bool.{cases_lt}
use Rattle.std.proofs.lemmas.List.{take-append-le, length-append, length-take, length-drop, append-nil, take_at, take_all, take-append-drop, drop-drop}
use Rattle.std.proofs.Math.Seq.{take-add, take-append-add}
use Rattle.lc_frame.specs.declared.version.Version.{Version}
use Rattle.lc_frame.specs.declared.frame.Frame.{Frame}
use Rattle.lc_frame.specs.declared.frame_fault.FrameFault.{FrameFault}
use Rattle.lc_frame.specs.declared.head.Head.{Head}
use Rattle.lc_frame.specs.declared.progress.Progress.{Progress}
use Rattle.lc_frame.specs.declared.progress.Progress.TheVariants.{Wants, Whole}
use Rattle.lc_frame.specs.Frame.{IsValid}
use Rattle.lc_frame.specs.Encoding.{encoding, FrameStands, FaultStands}
use Rattle.lc_frame.specs.Decoded.{IsOpen, IsKnown, OnlyFrame, OnlyFault}
use Rattle.lc_frame.specs.Scan.{frame_in, scan_of, FindsFrame, NeedsMore}
use Rattle.lc_frame.specs.Progress.{HoldsFrame, Holds, Takes, Advances}
use Rattle.lc_frame.proofs.Fronts.{only_frame, frame_goes_on, fault_goes_on}

-- ---- prefixes

-- what is open was open before
pub open_before : (v : Version) (k : ℕ) (bytes : List ℕ) → IsOpen v bytes → IsOpen v (take k bytes)
open_before v k bytes o = record {
  no_frame = λ f s. o.no_frame f (subst (FrameStands v f) (take-append-drop k bytes) (frame_goes_on v f (take k bytes) (drop k bytes) s));
  no_fault = λ e s. o.no_fault e (subst (FaultStands v e) (take-append-drop k bytes) (fault_goes_on v e (take k bytes) (drop k bytes) s));
}

encoding_stands : (v : Version) (f : Frame) (bytes : List ℕ) → IsValid v f → bytes ≡ encoding v f → FrameStands v f bytes
encoding_stands v f bytes valid e = record { valid = valid; rest = []; is = e ∙ sym (append-nil (encoding v f)) }

-- the frame that was found is what its bytes hold
pub whole_holds : (v : Version) (head : Head) (used : ℕ) (bytes held : List ℕ) → FindsFrame v head used bytes → held ≡ take used bytes → HoldsFrame v head held
whole_holds v head used bytes held found e =
    let f = frame_in v head (take used bytes) in
    let stands = found.only.stands in
    let is : frame_in v head held ≡ f = ap (λ (x : List ℕ). frame_in v head x) e in
    let fills : held ≡ encoding v f = e ∙ ap (λ (x : List ℕ). take used x) stands.is ∙ take_at (encoding v f) stands.rest used (sym found.used_is) in
    record {
      only = subst (λ (g : Frame). OnlyFrame v g held) (sym is) (only_frame v f held (encoding_stands v f held stands.valid fills));
      fills = fills ∙ ap (encoding v) (sym is);
      in_range = found.in_range;
      begins = omega (arith, found.begins, found.used_is, ap length fills);
    }

-- a frame stands at no place before its end
pub open_under : (v : Version) (head : Head) (used : ℕ) (bytes : List ℕ) → FindsFrame v head used bytes → (k : ℕ) → k < used → IsOpen v (take k bytes)
open_under v head used bytes found k lt = record {
  no_frame = λ f s.
      let whole_there : FrameStands v f bytes = subst (FrameStands v f) (take-append-drop k bytes) (frame_goes_on v f (take k bytes) (drop k bytes) s) in
      let same : f ≡ frame_in v head (take used bytes) = found.only.same f whole_there in
      omega (arith, lt, found.used_is, ap (λ (g : Frame). length (encoding v g)) same, ap length s.is, length-append (encoding v f) s.rest, length-take k bytes);
  no_fault = λ d s. found.only.no_fault d (subst (FaultStands v d) (take-append-drop k bytes) (fault_goes_on v d (take k bytes) (drop k bytes) s));
}

-- ---- one step

module _ (v : Version) (old piece : List ℕ) (need : ℕ) (wanted : NeedsMore v old need) where
  pub open_below : (k : ℕ) → length old + k < need → IsOpen v (old ++ take k piece)
  open_below k lt = wanted.more (take k piece) (omega (arith, length-append old (take k piece), length-take k piece))

  -- until there are enough bytes nothing more is known
  pub still_wants : (new : List ℕ) (count : ℕ) → new ≡ old ++ take count piece → length new < need → NeedsMore v new need
  still_wants new count e short = record {
    short = short;
    small = wanted.small;
    more = λ ys lt.
        let parted : new ++ ys ≡ old ++ (take count piece ++ ys) = ap (λ (x : List ℕ). x ++ ys) e ∙ append_assoc old (take count piece) ys in
        subst (IsOpen v) (sym parted) (wanted.more (take count piece ++ ys) (omega (arith, ap length parted)));
    again = λ ys lt.
        let parted : new ++ ys ≡ old ++ (take count piece ++ ys) = ap (λ (x : List ℕ). x ++ ys) e ∙ append_assoc old (take count piece) ys in
        ap (scan_of v) parted ∙ wanted.again (take count piece ++ ys) (omega (arith, ap length parted));
    now_open = subst (IsOpen v) (sym e) (wanted.more (take count piece) (omega (arith, ap length e)));
  }

  -- a frame that is found once there are enough bytes is all of them
  pub fills_all : (new : List ℕ) (count : ℕ) (head : Head) (used : ℕ) → new ≡ old ++ take count piece → length new ≤ need → FindsFrame v head used new → new ≡ take used new
  fills_all new count head used e enough found =
      let f = frame_in v head (take used new) in
      let stands = found.only.stands in
      let part : take used new ≡ encoding v f = ap (λ (x : List ℕ). take used x) stands.is ∙ take_at (encoding v f) stands.rest used (sym found.used_is) in
      elim (cases_lt used (length new)) [
        | inl less ↦
            elim (cases_lt used (length old)) [
              | inl within ↦
                  let same : take used new ≡ take used old = ap (λ (x : List ℕ). take used x) e ∙ take-append-le used old (take count piece) (omega arith) in
                  absurd ((open_before v used old wanted.now_open).no_frame f (encoding_stands v f (take used old) stands.valid (sym same ∙ part)))
              | inr past ↦
                  let j : ℕ = used - length old in
                  let same : take used new ≡ old ++ take j (take count piece) = ap (λ (x : List ℕ). take used x) e ∙ ap (λ (n : ℕ). take n (old ++ take count piece)) (omega arith) ∙ take-append-add old (take count piece) j in
                  let open_there = wanted.more (take j (take count piece)) (omega (arith, ap length same, length-take used new)) in
                  absurd (open_there.no_frame f (encoding_stands v f (old ++ take j (take count piece)) stands.valid (sym same ∙ part)))
            ]
        | inr all ↦ sym (take_all used new all)
      ]

  pub advances : (new : List ℕ) (count : ℕ) (progress : Progress) → new ≡ old ++ take count piece → count ≤ length piece → length old + count ≤ need → (0 < length piece → 0 < count) → Holds v progress new → Advances v old new piece count progress
  advances new count progress e within below further knows = record {
    count = within;
    held = e;
    shortest = λ k lt. open_below k (omega arith);
    further = further;
    knows = knows;
  }

pub known_frame : (v : Version) (head : Head) (bytes : List ℕ) → HoldsFrame v head bytes → IsKnown v bytes
known_frame v head bytes h = inl (frame_in v head bytes, h.only.stands)

pub known_fault : (v : Version) (e : FrameFault) (bytes : List ℕ) → OnlyFault v e bytes → IsKnown v bytes
known_fault v e bytes h = inr (e, h.stands)

-- ---- steps in a row: the bytes began as start, so many bytes of the piece were taken, and rest is left

module _ (start piece old rest : List ℕ) (taken : ℕ) (held : old ≡ start ++ take taken piece) (left : rest ≡ drop taken piece) where
  pub held_further : (count : ℕ) (new : List ℕ) → new ≡ old ++ take count rest → new ≡ start ++ take (taken + count) piece
  held_further count new e = e ∙ rw (held, left, append_assoc start (take taken piece) (take count (drop taken piece)), ← take-add taken count piece) refl

  pub open_further : (v : Version) (count : ℕ) → ((k : ℕ) → k < taken → IsOpen v (start ++ take k piece)) → ((k : ℕ) → k < count → IsOpen v (old ++ take k rest))
      → (k : ℕ) → k < taken + count → IsOpen v (start ++ take k piece)
  open_further v count before after k lt =
      elim (cases_lt k taken) [
        | inl under ↦ before k under
        | inr past ↦
            let j : ℕ = k - taken in
            let e : old ++ take j rest ≡ start ++ take k piece = held_further j _ refl ∙ ap (λ (n : ℕ). start ++ take n piece) (omega arith) in
            subst (IsOpen v) e (after j (omega arith))
      ]

  pub left_further : (count : ℕ) (after : List ℕ) → after ≡ drop count rest → after ≡ drop (taken + count) piece
  left_further count after e = e ∙ ap (λ (xs : List ℕ). drop count xs) left ∙ drop-drop count taken piece

  pub within_further : (count : ℕ) → taken ≤ length piece → count ≤ length rest → taken + count ≤ length piece
  within_further count within fits = omega (arith, length-drop taken piece, ap length left)

  pub takes_further : (v : Version) (new : List ℕ) (count : ℕ) (progress : Progress) → taken ≤ length piece → ((k : ℕ) → k < taken → IsOpen v (start ++ take k piece))
      → Advances v old new rest count progress → (taken + count < length piece → IsKnown v new) → Takes v start new piece (taken + count) progress
  takes_further v new count progress within before step stop = record {
    count = within_further count within step.count;
    held = held_further count new step.held;
    shortest = open_further v count before step.shortest;
    stop = stop;
    knows = step.knows;
  }

pub takes_part : (v : Version) (old new piece : List ℕ) (need : ℕ) → NeedsMore v old need → length old + length piece < need → new ≡ old ++ piece → Takes v old new piece (length piece) (Wants need)
takes_part v old new piece need wanted short e =
    let all : take (length piece) piece ≡ piece = take_all (length piece) piece (omega arith) in
    let held : new ≡ old ++ take (length piece) piece = e ∙ ap (λ (x : List ℕ). old ++ x) (sym all) in
    record {
      count = omega arith;
      held = held;
      shortest = λ k lt. open_below v old piece need wanted k (omega arith);
      stop = λ lt. absurd (omega (arith, lt));
      knows = still_wants v old piece need wanted new (length piece) held (omega (arith, ap length e, length-append old piece));
    }

-- ---- where all of the piece was copied at once

module _ (v : Version) (old piece : List ℕ) (need : ℕ) (wanted : NeedsMore v old need) (text : List ℕ) (e : text ≡ old ++ piece) where
  front_at : (k : ℕ) → take (length old + k) text ≡ old ++ take k piece
  front_at k = ap (λ (x : List ℕ). take (length old + k) x) e ∙ take-append-add old piece k

  -- a frame that comes to stand ends behind what was held
  pub past_held : (head : Head) (used : ℕ) → FindsFrame v head used text → length old < used
  past_held head used found =
      let f = frame_in v head (take used text) in
      let stands = found.only.stands in
      let part : take used text ≡ encoding v f = ap (λ (x : List ℕ). take used x) stands.is ∙ take_at (encoding v f) stands.rest used (sym found.used_is) in
      elim (cases_lt (length old) used) [
        | inl past ↦ past
        | inr within ↦
            let same : take used text ≡ take used old = ap (λ (x : List ℕ). take used x) e ∙ take-append-le used old piece within in
            absurd ((open_before v used old wanted.now_open).no_frame f (encoding_stands v f (take used old) stands.valid (sym same ∙ part)))
      ]

  pub leaps_frame : (new : List ℕ) (head : Head) (used : ℕ) → FindsFrame v head used text → new ≡ take used text → (taken : ℕ) → used ≡ length old + taken → Takes v old new piece taken (Whole head)
  leaps_frame new head used found cut taken whole =
      let knows = whole_holds v head used text new found cut in
      record {
        count = omega (arith, found.within, whole, ap length e, length-append old piece);
        held = cut ∙ ap (λ (n : ℕ). take n text) whole ∙ front_at taken;
        shortest = λ k lt. subst (IsOpen v) (front_at k) (open_under v head used text found (length old + k) (omega (arith, lt, whole)));
        stop = λ lt. known_frame v head new knows;
        knows = knows;
      }

  pub leaps_part : (more : ℕ) → NeedsMore v text more → Takes v old text piece (length piece) (Wants more)
  leaps_part more needs = record {
    count = omega arith;
    held = e ∙ ap (λ (x : List ℕ). old ++ x) (sym (take_all (length piece) piece (omega arith)));
    shortest = λ k lt. subst (IsOpen v) (front_at k) (open_before v (length old + k) text needs.now_open);
    stop = λ lt. absurd (omega (arith, lt));
    knows = needs;
  }

-- ---- where nothing was held

pub takes_frame : (v : Version) (old new piece : List ℕ) (head : Head) (used : ℕ) → old ≡ [] → new ≡ old ++ take used piece → FindsFrame v head used piece → Takes v old new piece used (Whole head)
takes_frame v old new piece head used none e found =
    let whole = whole_holds v head used piece new found (e ∙ ap (λ (x : List ℕ). x ++ take used piece) none) in
    record {
      count = found.within;
      held = e;
      shortest = λ k lt. subst (λ (x : List ℕ). IsOpen v (x ++ take k piece)) (sym none) (open_under v head used piece found k lt);
      stop = λ lt. known_frame v head new whole;
      knows = whole;
    }

pub takes_all : (v : Version) (old new piece : List ℕ) (need : ℕ) → old ≡ [] → new ≡ old ++ piece → NeedsMore v piece need → Takes v old new piece (length piece) (Wants need)
takes_all v old new piece need none e wanted =
    let all : take (length piece) piece ≡ piece = take_all (length piece) piece (omega arith) in
    let same : new ≡ piece = e ∙ ap (λ (x : List ℕ). x ++ piece) none in
    record {
      count = omega arith;
      held = e ∙ ap (λ (x : List ℕ). old ++ x) (sym all);
      shortest = λ k lt. subst (λ (x : List ℕ). IsOpen v (x ++ take k piece)) (sym none) (open_before v k piece wanted.now_open);
      stop = λ lt. absurd (omega (arith, lt));
      knows = subst (λ (x : List ℕ). NeedsMore v x need) (sym same) wanted;
    }
