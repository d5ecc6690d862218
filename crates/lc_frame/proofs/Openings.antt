-- What a decoder takes at the start of a stream, and what its feeds come to.
use Rattle.std.specs.Prelude.{◌==◌}
use Rattle.std.proofs.Common.{◌≡◌, ℕ, zero, suc, ◌+◌, ◌-◌, ◌<◌, ◌≤◌, Bool, true, false, List, [], ◌∷◌, ◌++◌, length, get_or, take, drop, Option, Some, None, refl, sym, ap, ap₂, subst, ◌∙◌, append_assoc, arith, inl, inr}
use Rattle.std.proofs.lemmas.Bool.{cases_Bool, cases_lt, true≢false}
use Rattle.std.proofs.lemmas.List.{append-nil, append_cancel_left, length-append, length-drop, take_all, nil_from_length}
use Rattle.std.proofs.Math.Seq.{take-add, get_or-append_seam}
use Rattle.lc_frame.specs.declared.version.Version.{Version}
use Rattle.lc_frame.specs.declared.version.Version.TheVariants.{One, Two}
use Rattle.lc_frame.specs.declared.frame.Frame.{Frame}
use Rattle.lc_frame.specs.declared.frame_fault.FrameFault.{FrameFault}
use Rattle.lc_frame.specs.declared.frame_fault.FrameFault.TheVariants.{BadTag}
use Rattle.lc_frame.specs.declared.head.Head.{Head}
use Rattle.lc_frame.specs.declared.progress.Progress.{Progress}
use Rattle.lc_frame.specs.declared.progress.Progress.TheVariants.{Wants, Whole, Fault, Greeted, Broken}
use Rattle.lc_frame.specs.declared.greeting.Opening.TheVariants as openings
use Rattle.lc_frame.specs.Version.{greeting, begins, version_of, IsGreetingPart, GreetingBreaks}
use Rattle.lc_frame.specs.Decoded.{IsOpen, IsKnown}
use Rattle.lc_frame.specs.Scan.{frame_in, NeedsMore}
use Rattle.lc_frame.specs.Stored.{Stored, stored_in, opened, HasFrame, HasFault, IsUndecided, IsDecided, IsSettled}
use Rattle.lc_frame.specs.Progress.{Holds, Remembers, known_version, Takes, TakesPart, Feeds, OpensAs, Opens, IsDue}
use Rattle.std.specs.Prelude.{IfSome}
use Rattle.lc_frame.proofs.Stored.{told, begins_long, front_is, settled_none, part_none, front_of_part, opened_is, part_undecided, part_opened, greeted_told}

-- ---- in a version

known_of : (v : Version) (progress : Progress) (bytes : List ℕ) → Holds v progress bytes → known_version v progress ≡ Some v
known_of v (Wants need) bytes h = refl
known_of v (Whole head) bytes h = refl
known_of v (Fault fault) bytes h = refl
known_of v Greeted bytes h = absurd h
known_of v Broken bytes h = absurd h

pub remembers_of : (v : Version) (progress : Progress) (bytes : List ℕ) → Holds v progress bytes → Remembers v progress bytes
remembers_of v (Wants need) bytes h = h
remembers_of v (Whole head) bytes h = h
remembers_of v (Fault fault) bytes h = h
remembers_of v Greeted bytes h = absurd h
remembers_of v Broken bytes h = absurd h

pub undecided_of : (v : Version) (bytes : List ℕ) → IsOpen v bytes → IsUndecided (stored_in v bytes)
undecided_of v bytes o = record { no_frame = o.no_frame; no_fault = o.no_fault }

stored_of : (v : Version) (progress : Progress) (bytes : List ℕ) → Holds v progress bytes → record { version = known_version v progress; bytes = bytes } ≡ stored_in v bytes
stored_of v progress bytes h = ap (λ (o : Option Version). record { version = o; bytes = bytes }) (known_of v progress bytes h)

decided_of : (v : Version) (progress : Progress) (bytes : List ℕ) → Holds v progress bytes → IsKnown v bytes → IsDecided (record { version = known_version v progress; bytes = bytes })
decided_of v progress bytes h known = subst IsDecided (sym (stored_of v progress bytes h)) known

-- what was taken behind bytes of frames was fed to them
pub takes_feeds : (v : Version) (held : Stored) (old new piece : List ℕ) (n : ℕ) (progress : Progress) → held ≡ stored_in v old → Takes v old new piece n progress → Feeds held (record { version = known_version v progress; bytes = new }) piece n
takes_feeds v held old new piece n progress is t =
    subst (λ (h : Stored). Feeds h (record { version = known_version v progress; bytes = new }) piece n) (sym is) (
    record {
      count = t.count;
      held = stored_of v progress new t.knows ∙ ap (stored_in v) t.held;
      shortest = λ k lt. undecided_of v (old ++ take k piece) (t.shortest k lt);
      stop = λ lt. decided_of v progress new t.knows (t.stop lt);
    }
    )

pub known_same : (v w : Version) (progress : Progress) → known_version v progress ≡ Some w → v ≡ w
known_same v w (Wants need) e = cc
known_same v w (Whole head) e = cc
known_same v w (Fault fault) e = cc
known_same v w Greeted e = absurd cc
known_same v w Broken e = absurd cc

pub if_some_then : (o : Option ℕ) (P Q : ℕ → Type 0) → ((n : ℕ) → P n → Q n) → IfSome o P → IfSome o Q
if_some_then None P Q then p = tt
if_some_then (Some n) P Q then p = then n p

-- ---- of version One

first_told : (mark whole later : Bool) → told mark whole ≡ Some One → told mark later ≡ Some One
first_told true true later e = absurd (two_one e)
  where
    two_one : Some Two ≡ Some One → ⊥
    two_one e = cc
first_told true false later e = absurd (none_one e)
  where
    none_one : None ≡ Some One → ⊥
    none_one e = cc
first_told false whole later e = refl

one_told : (piece : List ℕ) (k : ℕ) → version_of piece ≡ Some One → 0 < k → version_of (take k piece) ≡ Some One
one_told [] k e some = absurd (none_one e)
  where
    none_one : None ≡ Some One → ⊥
    none_one e = cc
one_told (b ∷ piece) zero e some = absurd (omega (arith, some))
one_told (b ∷ piece) (suc k) e some = first_told (b == 76) (begins (greeting Two) (b ∷ piece)) (begins (greeting Two) (b ∷ take k piece)) e

one_some : (piece : List ℕ) → version_of piece ≡ Some One → 0 < length piece
one_some [] e = absurd (none_one e)
  where
    none_one : None ≡ Some One → ⊥
    none_one e = cc
one_some (b ∷ piece) e = omega arith

one_opened : (piece : List ℕ) (k : ℕ) → version_of piece ≡ Some One → 0 < k → opened (take k piece) ≡ stored_in One (take k piece)
one_opened piece k e some = opened_is (Some One) (take k piece) (one_told piece k e some)

pub nothing_is_part : IsGreetingPart []
nothing_is_part = record { rest = greeting Two; some = omega arith; is = refl }

one_open : (piece : List ℕ) (k : ℕ) → version_of piece ≡ Some One → IsOpen One (take k piece) → IsUndecided (opened (take k piece))
one_open piece zero e o = part_opened [] nothing_is_part
one_open piece (suc k) e o = subst IsUndecided (sym (one_opened piece (suc k) e (omega arith))) (undecided_of One (take (suc k) piece) o)

-- of the first piece a byte is taken
one_taken : (new piece : List ℕ) (taken : ℕ) (progress : Progress) → ¬ IsKnown One [] → version_of piece ≡ Some One → Takes One [] new piece taken progress → 0 < taken
one_taken new piece zero progress unknown e t = absurd (unknown (subst (IsKnown One) t.held (t.stop (one_some piece e))))
one_taken new piece (suc n) progress unknown e t = omega arith

pub opens_one : (old start new piece : List ℕ) (taken : ℕ) (progress : Progress) → NeedsMore One [] 1 → OpensAs openings.One old start piece → Takes One start new piece taken progress → Opens old new piece One taken progress
opens_one old start new piece taken progress wanted o t =
    let at : Takes One [] new piece taken progress = subst (λ (x : List ℕ). Takes One x new piece taken progress) o.1 t in
    let unknown : ¬ IsKnown One [] = λ known. elim known [ inl p ↦ wanted.now_open.no_frame p.0 p.1 | inr p ↦ wanted.now_open.no_fault p.0 p.1 ] in
    let some = one_taken new piece taken progress unknown o.2 at in
    subst (λ (x : List ℕ). Opens x new piece One taken progress) (sym o.0) (
    record {
      feeds = record {
        count = at.count;
        held = stored_of One progress new at.knows ∙ ap (stored_in One) at.held ∙ sym (one_opened piece taken o.2 some);
        shortest = λ k lt. one_open piece k o.2 (at.shortest k lt);
        stop = λ lt. decided_of One progress new at.knows (at.stop lt);
      };
      knows = remembers_of One progress new at.knows;
    }
    )

-- ---- of version Two

part_of_front : (old piece new : List ℕ) (k n : ℕ) → k ≤ n → new ≡ old ++ take n piece → IsGreetingPart new → IsGreetingPart (old ++ take k piece)
part_of_front old piece new k n le e p =
    let j : ℕ = n - k in
    let parted : new ≡ (old ++ take k piece) ++ take j (drop k piece) =
    e ∙ ap (λ (m : ℕ). old ++ take m piece) (omega arith) ∙ ap (λ (x : List ℕ). old ++ x) (take-add k j piece) ∙ sym (append_assoc old (take k piece) (take j (drop k piece))) in
    front_of_part (old ++ take k piece) (take j (drop k piece)) (subst IsGreetingPart parted p)

pub opens_part : (old new piece : List ℕ) → OpensAs openings.Part old new piece → Opens old new piece One (length piece) Greeted
opens_part old new piece o =
    let all : new ≡ old ++ take (length piece) piece = o.0 ∙ ap (λ (x : List ℕ). old ++ x) (sym (take_all (length piece) piece (omega arith))) in
    record {
      feeds = record {
        count = omega arith;
        held = sym (opened_is None new (part_none new o.1)) ∙ ap opened all;
        shortest = λ k lt. part_opened (old ++ take k piece) (part_of_front old piece new k (length piece) (omega arith) all o.1);
        stop = λ lt. absurd (omega (arith, lt));
      };
      knows = o.1;
    }

pub opens_broken : (old new piece : List ℕ) (taken : ℕ) → OpensAs (openings.Broken taken) old new piece → Opens old new piece One taken Broken
opens_broken old new piece taken o = record {
  feeds = record {
    count = o.1.count;
    held = sym (opened_is None new o.0.no_version) ∙ ap opened o.1.held;
    shortest = λ k lt. part_opened (old ++ take k piece) (o.1.shortest k lt);
    stop = λ lt. inr (BadTag, (refl, o.0));
  };
  knows = o.0;
}

pub opens_whole : (old start new piece : List ℕ) (taken count : ℕ) (progress : Progress) → OpensAs (openings.Whole taken) old start piece → Takes Two [] new (drop taken piece) count progress → Opens old new piece Two (taken + count) progress
opens_whole old start new piece taken count progress o t =
    let greeted : (k : ℕ) → opened (old ++ take (taken + k) piece) ≡ stored_in Two (take k (drop taken piece)) = λ k.
    let text : old ++ take (taken + k) piece ≡ greeting Two ++ take k (drop taken piece) =
    ap (λ (x : List ℕ). old ++ x) (take-add taken k piece) ∙ sym (append_assoc old (take taken piece) (take k (drop taken piece))) ∙ ap (λ (x : List ℕ). x ++ take k (drop taken piece)) (sym o.1.held ∙ o.0) in
    ap opened text ∙ greeted_told (take k (drop taken piece)) in
    let left = length-drop taken piece in
    record {
      feeds = record {
        count = omega (arith, o.1.count, t.count, left);
        held = stored_of Two progress new t.knows ∙ ap (stored_in Two) t.held ∙ sym (greeted count);
        shortest = λ k lt.
            elim (cases_lt k taken) [
              | inl under ↦ part_opened (old ++ take k piece) (o.1.shortest k under)
              | inr past ↦
                  let j : ℕ = k - taken in
                  let at : opened (old ++ take k piece) ≡ stored_in Two (take j (drop taken piece)) = ap (λ (m : ℕ). opened (old ++ take m piece)) (omega arith) ∙ greeted j in
                  subst IsUndecided (sym at) (undecided_of Two (take j (drop taken piece)) (t.shortest j (omega arith)))
            ];
        stop = λ lt. decided_of Two progress new t.knows (t.stop (omega (arith, lt, left, o.1.count)));
      };
      knows = remembers_of Two progress new t.knows;
    }

-- ---- byte by byte

pub part_short : (bytes : List ℕ) → IsGreetingPart bytes → length bytes < 4
part_short bytes p = omega (arith, p.some, ap length p.is, length-append bytes p.rest)

due_of : (bytes rest : List ℕ) → 0 < length rest → greeting Two ≡ bytes ++ rest → IsDue (get_or (greeting Two) (length bytes) 0) bytes
due_of bytes [] some e = absurd (omega (arith, some))
due_of bytes (g ∷ rest) some e =
    let at : get_or (greeting Two) (length bytes) 0 ≡ g = ap (λ (x : List ℕ). get_or x (length bytes) 0) e ∙ get_or-append_seam bytes g rest 0 in
    record { rest = rest; is = e ∙ ap (λ (x : ℕ). bytes ++ x ∷ rest) (sym at) }

pub due_after : (bytes : List ℕ) → IsGreetingPart bytes → IsDue (get_or (greeting Two) (length bytes) 0) bytes
due_after bytes p = due_of bytes p.rest p.some p.is

first_is : {x y : ℕ} {xs ys : List ℕ} → x ∷ xs ≡ y ∷ ys → x ≡ y
first_is e = cc

-- behind a part of a greeting another byte tells no version
breaks_none : (buffer : List ℕ) (byte due : ℕ) (rest : List ℕ) (v : Version) → greeting Two ≡ buffer ++ due ∷ rest → ¬ (buffer ≡ []) → ¬ (byte ≡ due) → version_of (buffer ++ byte ∷ []) ≡ Some v → ⊥
breaks_none [] byte due rest v is some other e = some refl
breaks_none (b ∷ buffer) byte due rest v is some other e =
    let mark : (b == 76) ≡ true = ap (λ (x : ℕ). x == 76) (sym (first_is is)) in
    elim (cases_Bool (begins (greeting Two) (b ∷ buffer ++ byte ∷ []))) [
      | inl whole ↦
          let size = begins_long (greeting Two) (b ∷ buffer ++ byte ∷ []) whole in
          let text = front_is (greeting Two) (b ∷ buffer ++ byte ∷ []) whole in
          let sizes : length (b ∷ buffer) + 1 ≡ 4 + length (drop 4 (b ∷ buffer ++ byte ∷ [])) = omega (arith, ap length text, length-append (b ∷ buffer) (byte ∷ []), length-append (greeting Two) (drop 4 (b ∷ buffer ++ byte ∷ []))) in
          let none : drop 4 (b ∷ buffer ++ byte ∷ []) ≡ [] = nil_from_length (drop 4 (b ∷ buffer ++ byte ∷ [])) (omega (arith, sizes, ap length is, length-append (b ∷ buffer) (due ∷ rest))) in
          let same : (b ∷ buffer) ++ due ∷ rest ≡ (b ∷ buffer) ++ byte ∷ [] = sym is ∙ sym (append-nil (greeting Two)) ∙ ap (λ (x : List ℕ). greeting Two ++ x) (sym none) ∙ text in
          other (sym (first_is (append_cancel_left (b ∷ buffer) (due ∷ rest) (byte ∷ []) same)))
      | inr part ↦ some_none (sym e ∙ ap₂ told mark part)
    ]
  where
    some_none : {v : Version} → Some v ≡ None → ⊥
    some_none e = cc

module _ (old piece buffer new : List ℕ) (taken byte due : ℕ) (part : IsGreetingPart buffer) (is_due : IsDue due buffer)
    (held : buffer ≡ old ++ take taken piece) (within : taken < length piece) (next : get_or piece taken 0 ≡ byte) (grown : new ≡ buffer ++ byte ∷ []) where
  one_more : take (taken + 1) piece ≡ take taken piece ++ byte ∷ []
  one_more = take-add taken 1 piece ∙ ap (λ (x : List ℕ). take taken piece ++ x) (take_one taken piece within next)
    where
      take_one : (n : ℕ) (xs : List ℕ) → n < length xs → get_or xs n 0 ≡ byte → take 1 (drop n xs) ≡ byte ∷ []
      take_one n [] lt e = absurd (omega (arith, lt))
      take_one zero (x ∷ xs) lt e = ap (λ (y : ℕ). y ∷ []) e
      take_one (suc n) (x ∷ xs) lt e = take_one n xs (omega (arith, lt)) e

  pub further : new ≡ old ++ take (taken + 1) piece
  further = grown ∙ ap (λ (x : List ℕ). x ++ byte ∷ []) held ∙ append_assoc old (take taken piece) (byte ∷ []) ∙ ap (λ (x : List ℕ). old ++ x) (sym one_more)

  pub takes_part : TakesPart (taken + 1) old new piece
  takes_part = record {
    count = omega (arith, within);
    held = further;
    shortest = λ k lt. part_of_front old piece buffer k taken (omega (arith, lt)) held part;
  }

  grown_due : byte ≡ due → greeting Two ≡ new ++ is_due.rest
  grown_due e = is_due.is ∙ ap (λ (x : ℕ). buffer ++ x ∷ is_due.rest) (sym e) ∙ sym (append_assoc buffer (byte ∷ []) is_due.rest) ∙ ap (λ (x : List ℕ). x ++ is_due.rest) (sym grown)

  pub still_part : byte ≡ due → ¬ (length new ≡ 4) → IsGreetingPart new
  still_part e other = record { rest = is_due.rest; some = omega (arith, other, ap length (grown_due e), length-append new is_due.rest); is = grown_due e }

  pub is_whole : byte ≡ due → length new ≡ 4 → new ≡ greeting Two
  is_whole e all =
      let none : is_due.rest ≡ [] = nil_from_length is_due.rest (omega (arith, all, ap length (grown_due e), length-append new is_due.rest)) in
      sym (grown_due e ∙ ap (λ (x : List ℕ). new ++ x) none ∙ append-nil new)

  no_part : ¬ (byte ≡ due) → ¬ IsGreetingPart new
  no_part other p =
      let e : buffer ++ byte ∷ p.rest ≡ buffer ++ due ∷ is_due.rest =
      sym (append_assoc buffer (byte ∷ []) p.rest) ∙ ap (λ (x : List ℕ). x ++ p.rest) (sym grown) ∙ sym p.is ∙ is_due.is in
      other (first_is (append_cancel_left buffer (byte ∷ p.rest) (due ∷ is_due.rest) e))

  -- no version is told, since what comes to stand begins as a greeting does
  tells_none : (v : Version) → ¬ (byte ≡ due) → ¬ (buffer ≡ []) → version_of new ≡ Some v → ⊥
  tells_none v other some e =
      let first : version_of (buffer ++ byte ∷ []) ≡ Some v = ap version_of (sym grown) ∙ e in
      breaks_none buffer byte due is_due.rest v is_due.is some other first

  pub breaks : ¬ (byte ≡ due) → ¬ (buffer ≡ []) → GreetingBreaks new
  breaks other some = record { no_version = no_version_of (version_of new) refl; no_part = no_part other }
    where
      no_version_of : (o : Option Version) → version_of new ≡ o → version_of new ≡ None
      no_version_of None e = e
      no_version_of (Some v) e = absurd (tells_none v other some e)

pub not_empty : (n : ℕ) → false ≡ (n == 0) → n ≡ 0 → ⊥
not_empty n e none = true≢false (sym (ap (λ (m : ℕ). m == 0) none) ∙ sym e)

pub from_cleared : (old new rest more : List ℕ) (taken : ℕ) (progress : Progress) → old ≡ [] → rest ≡ more → Takes Two old new rest taken progress → Takes Two [] new more taken progress
from_cleared old new rest more taken progress none same t = subst (λ (x : List ℕ). Takes Two [] new x taken progress) same (subst (λ (x : List ℕ). Takes Two x new rest taken progress) none t)

-- ---- what a decoder holds

-- that a decoder is in this state, as its fields and as it is seen
module _ (v : Version) (progress : Progress) (inside : List ℕ) (held : Stored) (knows : Remembers v progress inside) (view_is : record { version = known_version v progress; bytes = inside } ≡ held) where
  pub seen : (p : Progress) → progress ≡ p → record { version = known_version v p; bytes = inside } ≡ held
  seen p e = subst (λ (q : Progress). record { version = known_version v q; bytes = inside } ≡ held) e view_is

  known : (p : Progress) → progress ≡ p → Remembers v p inside
  known p e = subst (λ (q : Progress). Remembers v q inside) e knows

  pub wants_undecided : (n : ℕ) → progress ≡ Wants n → IsUndecided held
  wants_undecided n e = subst IsUndecided (seen (Wants n) e) (undecided_of v inside (known (Wants n) e).now_open)

  pub greeted_undecided : progress ≡ Greeted → IsUndecided held
  greeted_undecided e = subst IsUndecided (seen Greeted e) (part_undecided inside (known Greeted e))

  pub whole_stands : (head : Head) → progress ≡ Whole head → HasFrame (frame_in v head inside) held
  whole_stands head e = subst (λ (h : Stored). HasFrame (frame_in v head inside) h) (seen (Whole head) e) (known (Whole head) e).only.stands

  pub whole_no_fault : (head : Head) → progress ≡ Whole head → (d : FrameFault) → ¬ HasFault d held
  whole_no_fault head e = subst (λ (h : Stored). (d : FrameFault) → ¬ HasFault d h) (seen (Whole head) e) (known (Whole head) e).only.no_fault

  pub fault_stands : (d : FrameFault) → progress ≡ Fault d → HasFault d held
  fault_stands d e = subst (λ (h : Stored). HasFault d h) (seen (Fault d) e) (known (Fault d) e).stands

  pub fault_no_frame : (d : FrameFault) → progress ≡ Fault d → (f : Frame) → ¬ HasFrame f held
  fault_no_frame d e = subst (λ (h : Stored). (f : Frame) → ¬ HasFrame f h) (seen (Fault d) e) (known (Fault d) e).no_frame

  pub broken_stands : progress ≡ Broken → HasFault BadTag held
  broken_stands e = subst (λ (h : Stored). HasFault BadTag h) (seen Broken e) (refl, known Broken e)

  pub broken_no_frame : progress ≡ Broken → (f : Frame) → ¬ HasFrame f held
  broken_no_frame e = subst (λ (h : Stored). (f : Frame) → ¬ HasFrame f h) (seen Broken e) (λ f s. s)

  pub is_settled : IsSettled held
  is_settled = subst IsSettled view_is (settled_of progress knows)
    where
      settled_of : (p : Progress) → Remembers v p inside → IsSettled (record { version = known_version v p; bytes = inside })
      settled_of (Wants n) k = refl
      settled_of (Whole head) k = refl
      settled_of (Fault fault) k = refl
      settled_of Greeted k = settled_none inside (part_none inside k)
      settled_of Broken k = settled_none inside k.no_version

-- ---- feeds

pub undecided_not : (h : Stored) → IsUndecided h → ¬ IsDecided h
undecided_not h u (inl p) = u.no_frame p.0 p.1
undecided_not h u (inr p) = u.no_fault p.0 p.1
