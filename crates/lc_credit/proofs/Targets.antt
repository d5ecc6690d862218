-- Targets are taken in turn.
use Rattle.std.proofs.Common.{◌≡◌, ◌⊎◌, ℕ, List, [], ◌∷◌, ◌++◌, Option, Some, None, sym, refl, ap, ◌∙◌, subst, ⊎_elim, inl, inr, append_assoc, append-nil}
use Rattle.std.specs.List.{last_or}
use Rattle.std.proofs.lemmas.List.Elements.{filter_map-append}
use Rattle.lc_history.specs.History.{IsHistoryAfter}
use Rattle.lc_credit.specs.declared.history.Entry.{Entry}
use Rattle.lc_credit.specs.declared.history.Entry.TheVariants.{Received, Used, Returned, Asked, Taken}
use Rattle.lc_credit.specs.History.{asked_of, taken_of, targets_asked, targets_taken, waiting, waiting_after, MayFollow, IsHistory}
use Rattle.lc_credit.specs.Targets.{AreAmong, AreTakenInTurn}
use Rattle.lc_credit.proofs.Histories.{waiting-push}

abbrev last : List ℕ → Option ℕ
last xs = last_or None xs

last-push : (xs : List ℕ) (o : Option ℕ) (t : ℕ) → last_or o (xs ++ t ∷ []) ≡ Some t
last-push [] o t = refl
last-push (x ∷ xs) o t = last-push xs (Some x) t

-- the last of two lists, where the second has one
last-append : (xs ys : List ℕ) (o : Option ℕ) (t : ℕ) → last ys ≡ Some t → last_or o (xs ++ ys) ≡ Some t
last-append [] [] o t is = absurd (cc)
last-append [] (y ∷ ys) o t is = is
last-append (x ∷ xs) ys o t is = last-append xs ys (Some x) t is

last_some : (xs : List ℕ) (x : ℕ) → (t : ℕ) × (last_or (Some x) xs ≡ Some t)
last_some [] x = (x, refl)
last_some (y ∷ xs) x = last_some xs y

none_last : (xs : List ℕ) → last xs ≡ None → xs ≡ []
none_last [] is = refl
none_last (x ∷ xs) is = let some = (last_some xs x).1 in absurd (cc)

last_among : (xs : List ℕ) (t : ℕ) → last xs ≡ Some t → AreAmong (t ∷ []) xs
last_among [] t is = absurd (cc)
last_among (x ∷ []) t is = inl ((cc), tt)
last_among (x ∷ y ∷ ys) t is = inr (last_among (y ∷ ys) t is)

among_push : (xs ys zs : List ℕ) (t : ℕ) → AreAmong xs ys → AreAmong (t ∷ []) zs → AreAmong (xs ++ t ∷ []) (ys ++ zs)
among_push [] [] zs t h k = k
among_push [] (y ∷ ys) zs t h k = inr (among_push [] ys zs t tt k)
among_push (x ∷ xs) [] zs t h k = absurd h
among_push (x ∷ xs) (y ∷ ys) zs t h k = ⊎_elim (λ (e : (x ≡ y) × AreAmong xs ys). inl (e.0, among_push xs ys zs t e.1 k)) (λ (e : AreAmong (x ∷ xs) ys). inr (among_push (x ∷ xs) ys zs t e k)) h

among_more : (xs ys zs : List ℕ) → AreAmong xs ys → AreAmong xs (ys ++ zs)
among_more [] ys zs h = tt
among_more (x ∷ xs) [] zs h = absurd h
among_more (x ∷ xs) (y ∷ ys) zs h = ⊎_elim (λ (e : (x ≡ y) × AreAmong xs ys). inl (e.0, among_more xs ys zs e.1)) (λ (e : AreAmong (x ∷ xs) ys). inr (among_more (x ∷ xs) ys zs e)) h

-- what was asked before the last target was taken, and what since
record Since (history : List Entry) : Type 0 where
  old : List ℕ
  rest : List ℕ
  all : targets_asked history ≡ old ++ rest
  among : AreAmong (targets_taken history) old
  ends : last (targets_taken history) ≡ last old
  waits : waiting history ≡ last rest

taken-push : (history : List Entry) (e : Entry) → targets_taken (history ++ e ∷ []) ≡ targets_taken history ++ targets_taken (e ∷ [])
taken-push history e = filter_map-append taken_of history (e ∷ [])

asked-push : (history : List Entry) (e : Entry) → targets_asked (history ++ e ∷ []) ≡ targets_asked history ++ targets_asked (e ∷ [])
asked-push history e = filter_map-append asked_of history (e ∷ [])

since_same : (history : List Entry) (e : Entry) → targets_asked (e ∷ []) ≡ [] → targets_taken (e ∷ []) ≡ [] → waiting_after (waiting history) e ≡ waiting history → Since history → Since (history ++ e ∷ [])
since_same history e none none' same h =
    let t : targets_taken (history ++ e ∷ []) ≡ targets_taken history = taken-push history e ∙ (ap (λ (xs : List ℕ). targets_taken history ++ xs) none' ∙ append-nil (targets_taken history)) in
    record {
      old = h.old;
      rest = h.rest;
      all = asked-push history e ∙ (ap (λ (xs : List ℕ). targets_asked history ++ xs) none ∙ (append-nil (targets_asked history) ∙ h.all));
      among = subst (λ (xs : List ℕ). AreAmong xs h.old) (sym t) h.among;
      ends = ap last t ∙ h.ends;
      waits = waiting-push history e ∙ (same ∙ h.waits);
    }

since_push : (history : List Entry) (e : Entry) → MayFollow history e → Since history → Since (history ++ e ∷ [])
since_push history (Received n) may h = since_same history (Received n) refl refl refl h
since_push history (Used n) may h = since_same history (Used n) refl refl refl h
since_push history (Returned n) may h = since_same history (Returned n) refl refl refl h
since_push history (Asked t) may h =
    let same : targets_taken (history ++ Asked t ∷ []) ≡ targets_taken history = taken-push history (Asked t) ∙ append-nil (targets_taken history) in
    record {
      old = h.old;
      rest = h.rest ++ t ∷ [];
      all = asked-push history (Asked t) ∙ (ap (λ (xs : List ℕ). xs ++ t ∷ []) h.all ∙ append_assoc h.old h.rest (t ∷ []));
      among = subst (λ (xs : List ℕ). AreAmong xs h.old) (sym same) h.among;
      ends = ap last same ∙ h.ends;
      waits = waiting-push history (Asked t) ∙ sym (last-push h.rest None t);
    }
since_push history (Taken t) may h =
    let now : targets_taken (history ++ Taken t ∷ []) ≡ targets_taken history ++ t ∷ [] = taken-push history (Taken t) in
    let end : last h.rest ≡ Some t = sym h.waits ∙ may in
    record {
      old = h.old ++ h.rest;
      rest = [];
      all = asked-push history (Taken t) ∙ (append-nil (targets_asked history) ∙ (h.all ∙ sym (append-nil (h.old ++ h.rest))));
      among = subst (λ (xs : List ℕ). AreAmong xs (h.old ++ h.rest)) (sym now) (among_push (targets_taken history) h.old h.rest t h.among (last_among h.rest t end));
      ends = ap last now ∙ (last-push (targets_taken history) None t ∙ sym (last-append h.old h.rest None t end));
      waits = waiting-push history (Taken t);
    }

since_all : (before history : List Entry) → IsHistoryAfter MayFollow before history → Since before → Since (before ++ history)
since_all before [] legal h = subst Since (sym (append-nil before)) h
since_all before (e ∷ history) legal h = subst Since (append_assoc before (e ∷ []) history) (since_all (before ++ e ∷ []) history legal.1 (since_push before e legal.0 h))

waits_or : (old rest : List ℕ) → (last rest ≡ None) ⊎ (last rest ≡ last (old ++ rest))
waits_or old [] = inl refl
waits_or old (y ∷ ys) = let some = last_some ys y in inr (some.1 ∙ sym (last-append old (y ∷ ys) None some.0 some.1))

pub taken_in_turn : (history : List Entry) → IsHistory history → AreTakenInTurn history
taken_in_turn history legal =
    let h : Since history = since_all [] history legal (record { old = []; rest = []; all = refl; among = tt; ends = refl; waits = refl }) in
    record {
      in_order = subst (AreAmong (targets_taken history)) (sym h.all) (among_more (targets_taken history) h.old h.rest h.among);
      waits = ⊎_elim (λ (e : last h.rest ≡ None). inl (h.waits ∙ e)) (λ (e : last h.rest ≡ last (h.old ++ h.rest)). inr (h.waits ∙ (e ∙ ap last (sym h.all)))) (waits_or h.old h.rest);
      none_waits = λ none. h.ends ∙ ap last (sym (h.all ∙ (ap (λ (xs : List ℕ). h.old ++ xs) (none_last h.rest (sym h.waits ∙ none)) ∙ append-nil h.old)));
    }
