-- Each use of a credit that did not come back is covered, with those before it, by what had been received before it.
use Rattle.std.proofs.Common.{◌≡◌, ℕ, suc, ◌+◌, ◌-◌, ◌≤◌, List, [], ◌∷◌, ◌++◌, length, take, Option, Some, None, refl, sym, ap, subst, ◌∙◌, arith, length-append, append_assoc, append-nil}
use Rattle.std.specs.Prelude.{sum, slice_index_or, unwrap_or, IfSome}
use Rattle.std.specs.List.{fold, filter_map, cons_option}
use Rattle.std.proofs.lemmas.List.Elements.{filter_map-append}
use Rattle.std.proofs.lemmas.List.Sums.{sum_by-append, sum_by-cons, fold-append}
use Rattle.lc_history.specs.History.{IsHistoryAfter}
use Rattle.lc_credit.specs.declared.history.Entry.{Entry}
use Rattle.lc_credit.specs.declared.history.Entry.TheVariants.{Received, Used, Returned, Asked, Taken}
use Rattle.lc_credit.specs.History.{received_of, used_of, returned_of, last_use_after, received, used, returned, last_use, MayFollow, IsHistory}
use Rattle.lc_outbox.specs.Uses.{uses_after, uses}
use Rattle.lc_outbox.proofs.Uses.{last_gone}
use Rattle.lc_interleaving.specs.Interleaving.{Funds, funds_after, before_uses}

-- the sums of a history with one entry more
abbrev amount : Option ℕ → ℕ
amount o = unwrap_or o 0

sum-one : (o : Option ℕ) → sum (cons_option o []) ≡ amount o
sum-one None = refl
sum-one (Some n) = omega arith

sum-push : (xs : List ℕ) (n : ℕ) → sum (xs ++ n ∷ []) ≡ sum xs + n
sum-push xs n = sum_by-append (λ m. m) xs (n ∷ []) ∙ ap (λ m. sum xs + m) (sum-one (Some n))

total-push : (of : Entry → Option ℕ) (xs : List Entry) (e : Entry) → sum (filter_map of (xs ++ e ∷ [])) ≡ sum (filter_map of xs) + amount (of e)
total-push of xs e = rw (filter_map-append of xs (e ∷ [])) (sum_by-append (λ n. n) (filter_map of xs) (filter_map of (e ∷ [])) ∙ ap (λ n. sum (filter_map of xs) + n) (sum-one (of e)))

received-push : (xs : List Entry) (e : Entry) → received (xs ++ e ∷ []) ≡ received xs + amount (received_of e)
received-push = total-push received_of

used-push : (xs : List Entry) (e : Entry) → used (xs ++ e ∷ []) ≡ used xs + amount (used_of e)
used-push = total-push used_of

returned-push : (xs : List Entry) (e : Entry) → returned (xs ++ e ∷ []) ≡ returned xs + amount (returned_of e)
returned-push = total-push returned_of

-- each amount, with those before it and this sum, is covered by the number at its place
abbrev AreCovered : ℕ → List ℕ → List ℕ → Type 0
AreCovered total [] [] = Unit {0}
AreCovered total (n ∷ amounts) (r ∷ funds) = (total + n ≤ r) × AreCovered (total + n) amounts funds
AreCovered total amounts funds = ⊥

covered-push : (total : ℕ) (amounts funds : List ℕ) (n r : ℕ) → AreCovered total amounts funds → total + sum amounts + n ≤ r → AreCovered total (amounts ++ n ∷ []) (funds ++ r ∷ [])
covered-push total [] [] n r h le = (omega (arith, le), tt)
covered-push total [] (s ∷ funds) n r h le = absurd h
covered-push total (m ∷ amounts) [] n r h le = absurd h
covered-push total (m ∷ amounts) (s ∷ funds) n r h le = (h.0, covered-push (total + m) amounts funds n r h.1 (omega (arith, le, sum_by-cons (λ x. x) m amounts)))

covered-length : (total : ℕ) (amounts funds : List ℕ) → AreCovered total amounts funds → length amounts ≡ length funds
covered-length total [] [] h = refl
covered-length total [] (s ∷ funds) h = absurd h
covered-length total (m ∷ amounts) [] h = absurd h
covered-length total (m ∷ amounts) (s ∷ funds) h = ap suc (covered-length (total + m) amounts funds h.1)

-- without the last
covered-less : (total : ℕ) (xs : List ℕ) (n : ℕ) (funds : List ℕ) → AreCovered total (xs ++ n ∷ []) funds → AreCovered total xs (take (length xs) funds)
covered-less total [] n [] h = absurd h
covered-less total [] n (s ∷ funds) h = tt
covered-less total (x ∷ xs) n [] h = absurd h
covered-less total (x ∷ xs) n (s ∷ funds) h = (h.0, covered-less (total + x) xs n funds h.1)

-- at one place
covered-at : (total : ℕ) (xs : List ℕ) (n : ℕ) (ys funds : List ℕ) → AreCovered total (xs ++ n ∷ ys) funds → total + sum xs + n ≤ slice_index_or funds (length xs) 0
covered-at total [] n ys [] h = absurd h
covered-at total [] n ys (s ∷ funds) h = let le = h.0 in omega (arith, le)
covered-at total (x ∷ xs) n ys [] h = absurd h
covered-at total (x ∷ xs) n ys (s ∷ funds) h = let le = covered-at (total + x) xs n ys funds h.1 in omega (arith, le, sum_by-cons (λ m. m) x xs)

-- what a history leaves: the uses that stand, what had been received before each, and the use that a return would undo, which is the last of them
record Leaves (before : List Entry) (standing : List ℕ) (funds : Funds) (last : Option ℕ) : Type 0 where
  all_received : funds.received ≡ received before
  all_used : sum standing + returned before ≡ used before
  covered : AreCovered 0 standing funds.before_uses
  last_is : last_use before ≡ last
  ends : IfSome last (λ n. (xs : List ℕ) × (standing ≡ xs ++ n ∷ []))

last-push : (before : List Entry) (e : Entry) (last : Option ℕ) → last_use before ≡ last → last_use (before ++ e ∷ []) ≡ last_use_after last e
last-push before e last is = fold-append last_use_after None before (e ∷ []) ∙ ap (λ (o : Option ℕ). last_use_after o e) is

-- an entry that is no use and no return
module _ (before : List Entry) (standing : List ℕ) (funds : Funds) (last : Option ℕ) (h : Leaves before standing funds last) where
  leaves_received : (n : ℕ) → Leaves (before ++ Received n ∷ []) standing (record funds { received = funds.received + n }) last
  leaves_received n =
      let e : Entry = Received n in
      record {
        all_received = omega (arith, h.all_received, received-push before e);
        all_used = omega (arith, h.all_used, used-push before e, returned-push before e);
        covered = h.covered;
        last_is = last-push before e last h.last_is;
        ends = h.ends;
      }

  leaves_asked : (n : ℕ) → Leaves (before ++ Asked n ∷ []) standing funds last
  leaves_asked n =
      let e : Entry = Asked n in
      record {
        all_received = omega (arith, h.all_received, received-push before e);
        all_used = omega (arith, h.all_used, used-push before e, returned-push before e);
        covered = h.covered;
        last_is = last-push before e last h.last_is;
        ends = h.ends;
      }

  leaves_taken : (n : ℕ) → Leaves (before ++ Taken n ∷ []) standing funds last
  leaves_taken n =
      let e : Entry = Taken n in
      record {
        all_received = omega (arith, h.all_received, received-push before e);
        all_used = omega (arith, h.all_used, used-push before e, returned-push before e);
        covered = h.covered;
        last_is = last-push before e last h.last_is;
        ends = h.ends;
      }

  leaves_used : (n : ℕ) → MayFollow before (Used n) → Leaves (before ++ Used n ∷ []) (standing ++ n ∷ []) (record funds { before_uses = funds.before_uses ++ funds.received ∷ [] }) (Some n)
  leaves_used n may =
      let e : Entry = Used n in
      record {
        all_received = omega (arith, h.all_received, received-push before e);
        all_used = omega (arith, h.all_used, sum-push standing n, used-push before e, returned-push before e);
        covered = covered-push 0 standing funds.before_uses n funds.received h.covered (omega (arith, may, h.all_received, h.all_used));
        last_is = last-push before e last h.last_is;
        ends = (standing, refl);
      }

-- a return undoes the last use
leaves_returned : (before : List Entry) (xs funds : List ℕ) (n sums : ℕ) → Leaves before (xs ++ n ∷ []) (record { received = sums; before_uses = funds }) (Some n) → Leaves (before ++ Returned n ∷ []) xs (record { received = sums; before_uses = take (length xs) funds }) None
leaves_returned before xs funds n sums h =
    let e : Entry = Returned n in
    record {
      all_received = omega (arith, h.all_received, received-push before e);
      all_used = omega (arith, h.all_used, sum-push xs n, used-push before e, returned-push before e);
      covered = covered-less 0 xs n funds h.covered;
      last_is = last-push before e (Some n) h.last_is;
      ends = tt;
    }

one_less : (xs : List ℕ) (n : ℕ) (funds : List ℕ) → AreCovered 0 (xs ++ n ∷ []) funds → length funds - 1 ≡ length xs
one_less xs n funds h = omega (arith, covered-length 0 (xs ++ n ∷ []) funds h, length-append xs (n ∷ []))

returned_leaves : (before : List Entry) (standing : List ℕ) (funds : Funds) (last : Option ℕ) (n : ℕ) → MayFollow before (Returned n) → Leaves before standing funds last → Leaves (before ++ Returned n ∷ []) (uses_after standing (Returned n)) (funds_after funds (Returned n)) None
returned_leaves before standing funds None n may h = absurd (let none : last_use before ≡ None = h.last_is in let some : last_use before ≡ Some n = may in cc)
returned_leaves before standing funds (Some m) n may h =
    let same : m ≡ n = (let is : last_use before ≡ Some m = h.last_is in let some : last_use before ≡ Some n = may in cc) in
    let xs : List ℕ = h.ends.0 in
    let is : standing ≡ xs ++ n ∷ [] = h.ends.1 ∙ ap (λ (k : ℕ). xs ++ k ∷ []) same in
    let now : Leaves before (xs ++ n ∷ []) funds (Some n) = subst (λ (ys : List ℕ). Leaves before ys funds (Some n)) is (subst (λ (k : ℕ). Leaves before standing funds (Some k)) same h) in
    let left : Leaves (before ++ Returned n ∷ []) xs (record { received = funds.received; before_uses = take (length xs) funds.before_uses }) None = leaves_returned before xs funds.before_uses n funds.received now in
    let gone : xs ≡ uses_after standing (Returned n) = sym (ap (λ (ys : List ℕ). take (length ys - 1) ys) is ∙ last_gone xs n) in
    let fewer : length xs ≡ length funds.before_uses - 1 = sym (one_less xs n funds.before_uses now.covered) in
    subst (λ (k : ℕ). Leaves (before ++ Returned n ∷ []) (uses_after standing (Returned n)) (record { received = funds.received; before_uses = take k funds.before_uses }) None) fewer
    (subst (λ (ys : List ℕ). Leaves (before ++ Returned n ∷ []) ys (record { received = funds.received; before_uses = take (length xs) funds.before_uses }) None) gone left)

-- at the end of a history each use that stands is covered, and they are what was used and did not come back
record Ends (history : List Entry) (standing : List ℕ) (funds : Funds) : Type 0 where
  covered : AreCovered 0 standing funds.before_uses
  all_used : sum standing + returned history ≡ used history

goes_on : (history before later : List Entry) (standing : List ℕ) (funds : Funds) (last : Option ℕ) → before ++ later ≡ history → IsHistoryAfter MayFollow before later → Leaves before standing funds last → Ends history (fold uses_after standing later) (fold funds_after funds later)
goes_on history before [] standing funds last is h s = subst (λ (xs : List Entry). Ends xs standing funds) (sym (append-nil before) ∙ is) (record { covered = s.covered; all_used = s.all_used })
goes_on history before (Received n ∷ later) standing funds last is h s = goes_on history (before ++ Received n ∷ []) later standing (record funds { received = funds.received + n }) last (append_assoc before (Received n ∷ []) later ∙ is) h.1 (leaves_received before standing funds last s n)
goes_on history before (Used n ∷ later) standing funds last is h s = goes_on history (before ++ Used n ∷ []) later (standing ++ n ∷ []) (record funds { before_uses = funds.before_uses ++ funds.received ∷ [] }) (Some n) (append_assoc before (Used n ∷ []) later ∙ is) h.1 (leaves_used before standing funds last s n h.0)
goes_on history before (Returned n ∷ later) standing funds last is h s = goes_on history (before ++ Returned n ∷ []) later (uses_after standing (Returned n)) (funds_after funds (Returned n)) None (append_assoc before (Returned n ∷ []) later ∙ is) h.1 (returned_leaves before standing funds last n h.0 s)
goes_on history before (Asked n ∷ later) standing funds last is h s = goes_on history (before ++ Asked n ∷ []) later standing funds last (append_assoc before (Asked n ∷ []) later ∙ is) h.1 (leaves_asked before standing funds last s n)
goes_on history before (Taken n ∷ later) standing funds last is h s = goes_on history (before ++ Taken n ∷ []) later standing funds last (append_assoc before (Taken n ∷ []) later ∙ is) h.1 (leaves_taken before standing funds last s n)

ends : (history : List Entry) → IsHistory history → Ends history (uses history) (fold funds_after (record { received = 0; before_uses = [] }) history)
ends history legal = goes_on history [] history [] (record { received = 0; before_uses = [] }) None refl legal (record { all_received = refl; all_used = refl; covered = tt; last_is = refl; ends = tt })

pub uses_stand : (history : List Entry) → IsHistory history → sum (uses history) + returned history ≡ used history
uses_stand history legal = (ends history legal).all_used

-- so the use at each place is covered, with those before it
pub paid_at : (history : List Entry) (xs : List ℕ) (n : ℕ) (ys : List ℕ) → IsHistory history → uses history ≡ xs ++ n ∷ ys → sum xs + n ≤ slice_index_or (before_uses history) (length xs) 0
paid_at history xs n ys legal is =
    let le : 0 + sum xs + n ≤ slice_index_or (before_uses history) (length xs) 0 = covered-at 0 xs n ys (before_uses history) (subst (λ (us : List ℕ). AreCovered 0 us (before_uses history)) is (ends history legal).covered) in
    omega (arith, le)
