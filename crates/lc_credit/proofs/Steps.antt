-- Each step keeps the rule of a credit's words.
use Rattle.std.proofs.Common.{◌≡◌, ◌≢◌, ◌⊎◌, ℕ, zero, suc, ◌+◌, ◌-◌, ◌≤◌, ◌<◌, ◌%◌, ◌^◌, List, [], ◌∷◌, ◌++◌, length, set, get_or, Option, Some, None, sym, refl, ap, ◌∙◌, subst, ⊎_elim, inl, inr, arith, length-set, get_or-set_same, get_or-set_other}
use Rattle.std.specs.Prelude.{filter}
use mathlib.Core.Option.{none, some, some-ne-none, some-injective}
use lib.ListN.{get_elem?}
use Rattle.atomic_table.specs.Table.{State, step, opening, keeps, stepped, Allows, Splits, Joins}
use Rattle.atomic_table.proofs.Lists.{at_set}
use Rattle.lc_frame.specs.Kind.{max_amount, max_total}
use Rattle.lc_history.proofs.Histories.{knows_more, knows_all}
use Rattle.lc_credit.specs.declared.history.Entry.{Entry}
use Rattle.lc_credit.specs.declared.history.Entry.TheVariants.{Received, Used, Returned, Asked, Taken}
use Rattle.lc_credit.specs.declared.rule.View.{View}
use Rattle.lc_credit.specs.declared.rule.View.TheVariants.{Reading, Sending, Both, Closed}
use Rattle.lc_credit.specs.History.{received, used, returned, waiting, last_use, is_incoming, is_outgoing, Makes}
use Rattle.lc_credit.specs.Rule.{asked_word, amount, Leaves, seen_of, IsTrueOf, KeepsCredit, LoadedIn, AddedReceived, StoredAsked, LoadedOut, SubtractedUsed, AddedReturned, TakesOut, SwappedAsked, LoadedLast}
use Rattle.lc_credit.proofs.Histories.{received-push, used-push, returned-push, waiting-push, last_use-push, received_same, last_use_same, history-push}

-- a seat's place in the list of views
abbrev Each : (ℕ → View → Type 0) → List View → Type 0
Each Is views = (seat : ℕ) (v : View) → get_elem? views seat ≡ some v → Is seat v

each_set : (Is : ℕ → View → Type 0) (views : List View) (id : ℕ) (w : View) → Is id w → ((seat : ℕ) (v : View) → seat ≢ id → get_elem? views seat ≡ some v → Is seat v) → Each Is (set views id w)
each_set Is views id w mine others seat v at = ⊎_elim (λ (x : (seat ≡ id) × (w ≡ v)). subst (λ (y : ℕ × View). Is y.0 y.1) (λ i. (sym x.0 i, x.1 i)) mine)
    (λ (x : (seat ≢ id) × (get_elem? views seat ≡ some v)). others seat v x.0 x.1) (at_set views id seat w v at)

at_end : (views : List View) (w v : View) (seat : ℕ) → get_elem? (views ++ w ∷ []) seat ≡ some v → (get_elem? views seat ≡ some v) ⊎ ((seat ≡ length views) × (w ≡ v))
at_end [] w v zero at = inr (refl, some-injective w v at)
at_end [] w v (suc seat) at = absurd (some-ne-none v (sym at))
at_end (x ∷ views) w v zero at = inl at
at_end (x ∷ views) w v (suc seat) at = ⊎_elim (λ t. inl t) (λ t. inr (ap suc t.0, t.1)) (at_end views w v seat at)

-- the credit word becomes n, and one seat has a new view
credit_moved : (s : State (Unit {0}) View) (cs : List (ℕ × Unit {0})) (id n : ℕ) (w : View) (reader sender : ℕ) (history : List Entry) → length s.words ≡ 2 → Leaves history n (get_or s.words 1 0)
    → IsTrueOf reader sender history n id w → ((seat : ℕ) (v : View) → seat ≢ id → get_elem? s.views seat ≡ some v → IsTrueOf reader sender history n seat v) → KeepsCredit (stepped s 0 n id cs w keeps)
credit_moved s cs id n w reader sender history two leaves mine others =
    let here : n ≡ get_or (set s.words 0 n) 0 0 = sym (get_or-set_same s.words 0 n 0 (omega arith)) in
    let there : get_or s.words 1 0 ≡ get_or (set s.words 0 n) 1 0 = sym (get_or-set_other s.words 0 1 n 0 (omega arith)) in
    record {
      reader = reader;
      sender = sender;
      history = history;
      words = length-set s.words 0 n ∙ two;
      leaves = subst (λ (x : ℕ × ℕ). Leaves history x.0 x.1) (λ i. (here i, there i)) leaves;
      views = subst (λ (x : ℕ). Each (IsTrueOf reader sender history x) (set s.views id w)) here (each_set (IsTrueOf reader sender history n) s.views id w mine others);
    }

-- the asked word becomes n, and one seat has a new view
asked_moved : (s : State (Unit {0}) View) (cs : List (ℕ × Unit {0})) (id n : ℕ) (w : View) (reader sender : ℕ) (history : List Entry) → length s.words ≡ 2 → Leaves history (get_or s.words 0 0) n
    → IsTrueOf reader sender history (get_or s.words 0 0) id w → ((seat : ℕ) (v : View) → seat ≢ id → get_elem? s.views seat ≡ some v → IsTrueOf reader sender history (get_or s.words 0 0) seat v)
    → KeepsCredit (stepped s 1 n id cs w keeps)
asked_moved s cs id n w reader sender history two leaves mine others =
    let here : n ≡ get_or (set s.words 1 n) 1 0 = sym (get_or-set_same s.words 1 n 0 (omega arith)) in
    let there : get_or s.words 0 0 ≡ get_or (set s.words 1 n) 0 0 = sym (get_or-set_other s.words 1 0 n 0 (omega arith)) in
    record {
      reader = reader;
      sender = sender;
      history = history;
      words = length-set s.words 1 n ∙ two;
      leaves = subst (λ (x : ℕ × ℕ). Leaves history x.0 x.1) (λ i. (there i, here i)) leaves;
      views = subst (λ (x : ℕ). Each (IsTrueOf reader sender history x) (set s.views id w)) there (each_set (IsTrueOf reader sender history (get_or s.words 0 0)) s.views id w mine others);
    }

-- a word is no more than what was received, so a sum never wraps around
word_covered : (n asked : ℕ) (history : List Entry) → Leaves history n asked → n ≤ received history
word_covered n asked history h = let held = h.held in let owed = h.owed in omega arith

word_small : (n asked : ℕ) (history : List Entry) → Leaves history n asked → n ≤ 2 ^ 62
word_small n asked history h = let few = word_covered n asked history h in let total = h.total in omega arith

no_wrap : (n k : ℕ) → n + k < 2 ^ 64 → (n + k) % 2 ^ 64 ≡ n + k
no_wrap n k h = omega arith

no_borrow : (n k : ℕ) → n < 2 ^ 64 → k ≤ n → (n + (2 ^ 64 - k)) % 2 ^ 64 ≡ n - k
no_borrow n k h le = omega arith

-- the words that one entry more leaves, by its kind
leaves_received : (n asked k : ℕ) (history : List Entry) → received history + k ≤ max_total → Leaves history n asked → Leaves (history ++ Received k ∷ []) (n + k) asked
leaves_received n asked k history small h =
    let a : received (history ++ Received k ∷ []) ≡ received history + k = received-push history (Received k) in
    let b : used (history ++ Received k ∷ []) ≡ used history + 0 = used-push history (Received k) in
    let c : returned (history ++ Received k ∷ []) ≡ returned history + 0 = returned-push history (Received k) in
    let d : amount (last_use (history ++ Received k ∷ [])) ≡ amount (last_use history) = ap amount (last_use-push history (Received k)) in
    let held = h.held in
    let owed = h.owed in
    record {
      legal = history-push history (Received k) tt h.legal;
      held = omega arith;
      waits = h.waits ∙ ap asked_word (sym (waiting-push history (Received k)));
      owed = omega arith;
      total = omega arith;
      target = h.target;
    }

leaves_used : (n asked k : ℕ) (history : List Entry) → k ≤ n → Leaves history n asked → Leaves (history ++ Used k ∷ []) (n - k) asked
leaves_used n asked k history enough h =
    let a : received (history ++ Used k ∷ []) ≡ received history + 0 = received-push history (Used k) in
    let b : used (history ++ Used k ∷ []) ≡ used history + k = used-push history (Used k) in
    let c : returned (history ++ Used k ∷ []) ≡ returned history + 0 = returned-push history (Used k) in
    let d : amount (last_use (history ++ Used k ∷ [])) ≡ k = ap amount (last_use-push history (Used k)) in
    let held = h.held in
    let owed = h.owed in
    let total = h.total in
    record {
      legal = history-push history (Used k) (omega arith) h.legal;
      held = omega arith;
      waits = h.waits ∙ ap asked_word (sym (waiting-push history (Used k)));
      owed = omega arith;
      total = omega arith;
      target = h.target;
    }

leaves_returned : (n asked k : ℕ) (history : List Entry) → last_use history ≡ Some k → Leaves history n asked → Leaves (history ++ Returned k ∷ []) (n + k) asked
leaves_returned n asked k history owes h =
    let a : received (history ++ Returned k ∷ []) ≡ received history + 0 = received-push history (Returned k) in
    let b : used (history ++ Returned k ∷ []) ≡ used history + 0 = used-push history (Returned k) in
    let c : returned (history ++ Returned k ∷ []) ≡ returned history + k = returned-push history (Returned k) in
    let d : amount (last_use (history ++ Returned k ∷ [])) ≡ 0 = ap amount (last_use-push history (Returned k)) in
    let due : amount (last_use history) ≡ k = ap amount owes in
    let held = h.held in
    let owed = h.owed in
    let total = h.total in
    record {
      legal = history-push history (Returned k) owes h.legal;
      held = omega arith;
      waits = h.waits ∙ ap asked_word (sym (waiting-push history (Returned k)));
      owed = omega arith;
      total = omega arith;
      target = h.target;
    }

leaves_asked : (n asked target : ℕ) (history : List Entry) → target ≤ max_amount → Leaves history n asked → Leaves (history ++ Asked target ∷ []) n (target + 1)
leaves_asked n asked target history small h =
    let a : received (history ++ Asked target ∷ []) ≡ received history + 0 = received-push history (Asked target) in
    let b : used (history ++ Asked target ∷ []) ≡ used history + 0 = used-push history (Asked target) in
    let c : returned (history ++ Asked target ∷ []) ≡ returned history + 0 = returned-push history (Asked target) in
    let d : amount (last_use (history ++ Asked target ∷ [])) ≡ amount (last_use history) = ap amount (last_use-push history (Asked target)) in
    let held = h.held in
    let owed = h.owed in
    let total = h.total in
    record {
      legal = history-push history (Asked target) tt h.legal;
      held = omega arith;
      waits = ap asked_word (sym (waiting-push history (Asked target)));
      owed = omega arith;
      total = omega arith;
      target = omega arith;
    }

-- what the asked word says
nothing_waits : (w : Option ℕ) → 0 ≡ asked_word w → w ≡ None
nothing_waits None is = refl
nothing_waits (Some target) is = absurd (omega arith)

target_waits : (w : Option ℕ) (target : ℕ) → suc target ≡ asked_word w → w ≡ Some target
target_waits None target is = absurd (omega arith)
target_waits (Some t) target is = ap Some (omega arith)

leaves_taken : (n target : ℕ) (history : List Entry) → Leaves history n (suc target) → Leaves (history ++ Taken target ∷ []) n 0
leaves_taken n target history h =
    let a : received (history ++ Taken target ∷ []) ≡ received history + 0 = received-push history (Taken target) in
    let b : used (history ++ Taken target ∷ []) ≡ used history + 0 = used-push history (Taken target) in
    let c : returned (history ++ Taken target ∷ []) ≡ returned history + 0 = returned-push history (Taken target) in
    let d : amount (last_use (history ++ Taken target ∷ [])) ≡ amount (last_use history) = ap amount (last_use-push history (Taken target)) in
    let held = h.held in
    let owed = h.owed in
    let total = h.total in
    record {
      legal = history-push history (Taken target) (target_waits (waiting history) target h.waits) h.legal;
      held = omega arith;
      waits = ap asked_word (sym (waiting-push history (Taken target)));
      owed = omega arith;
      total = omega arith;
      target = omega arith;
    }

-- the other seats, after an entry of the reading side and of the sending end
others_of_reader : (reader sender : ℕ) (history : List Entry) (e : Entry) (word after seat : ℕ) (v : View) → filter is_outgoing (e ∷ []) ≡ [] → word ≤ after → seat ≢ reader → IsTrueOf reader sender history word seat v
    → IsTrueOf reader sender (history ++ e ∷ []) after seat v
others_of_reader reader sender history e word after seat (Reading x l) alien le off is = absurd (off is.0)
others_of_reader reader sender history e word after seat (Sending x l least) alien le off is = (is.0, knows_more is_outgoing x history (e ∷ []) alien is.1, (let low = is.2 in omega arith))
others_of_reader reader sender history e word after seat (Both x l y) alien le off is = absurd (off is.0)
others_of_reader reader sender history e word after seat Closed alien le off is = tt

others_of_sender : (reader sender : ℕ) (history : List Entry) (e : Entry) (word after seat : ℕ) (v : View) → filter is_incoming (e ∷ []) ≡ [] → seat ≢ sender → IsTrueOf reader sender history word seat v
    → IsTrueOf reader sender (history ++ e ∷ []) after seat v
others_of_sender reader sender history e word after seat (Reading x l) alien off is = (is.0, knows_more is_incoming x history (e ∷ []) alien is.1)
others_of_sender reader sender history e word after seat (Sending x l least) alien off is = absurd (off is.0)
others_of_sender reader sender history e word after seat (Both x l y) alien off is = absurd (off is.1)
others_of_sender reader sender history e word after seat Closed alien off is = tt

pub begins : KeepsCredit (opening (0 ∷ 0 ∷ []) [] (Both [] 0 []))
begins = record { reader = 0; sender = 0; history = []; words = refl; leaves = record { legal = tt; held = refl; waits = refl; owed = omega arith; total = omega arith; target = omega arith }; views = one }
  where
    one : (seat : ℕ) (v : View) → get_elem? (Both [] 0 [] ∷ []) seat ≡ some v → IsTrueOf 0 0 [] 0 seat v
    one zero v at = subst (IsTrueOf 0 0 [] 0 0) (some-injective _ _ at) (refl, refl, knows_all is_incoming [], knows_all is_outgoing [])
    one (suc seat) v at = absurd (some-ne-none v (sym at))

pub loads_in : (slots id : ℕ) (x : List Entry) (l : ℕ) (cs : List (ℕ × Unit {0})) → Allows KeepsCredit slots id (Reading x l, cs) 0 (λ n. n) (LoadedIn (step slots 0 0 0 none) (Reading x l, cs))
loads_in slots id x l cs s h len at fits =
    let n : ℕ = get_or s.words 0 0 in
    let mine : IsTrueOf h.reader h.sender h.history n id (Reading x l) = h.views id (Reading x l) at in (
      Reading h.history (l + 1),
      keeps,
      tt,
      credit_moved s cs id n (Reading h.history (l + 1)) h.reader h.sender h.history h.words h.leaves (mine.0, knows_all is_incoming h.history) (λ seat v off e. h.views seat v e),
      record { learns = record { knows = mine.1; legal = h.leaves.legal }; held = h.leaves.held; covered = word_covered _ _ _ h.leaves; view = refl; slots = refl },
    )

pub adds_received : (slots id k : ℕ) (x : List Entry) (l : ℕ) (cs : List (ℕ × Unit {0})) → received x + k ≤ max_total → Allows KeepsCredit slots id (Reading x l, cs) 0 (λ n. (n + k) % 2 ^ 64) (AddedReceived (step slots 0 k 0 none) (Reading x l, cs))
adds_received slots id k x l cs small s h len at fits =
    let n : ℕ = get_or s.words 0 0 in
    let now : List Entry = h.history ++ Received k ∷ [] in
    let mine : IsTrueOf h.reader h.sender h.history n id (Reading x l) = h.views id (Reading x l) at in
    let same : received h.history ≡ received x = received_same x h.history mine.1 in
    let n-small : n ≤ 2 ^ 62 = word_small _ _ _ h.leaves in
    let is : (n + k) % 2 ^ 64 ≡ n + k = no_wrap n k (omega arith) in
    let leaves : Leaves now (n + k) (get_or s.words 1 0) = leaves_received n _ k h.history (omega arith) h.leaves in
    let w : View = Reading now l in (
      w,
      keeps,
      tt,
      subst (λ (z : ℕ). KeepsCredit (stepped s 0 z id cs w keeps)) (sym is)
          (credit_moved s cs id (n + k) w h.reader h.sender now h.words leaves (mine.0, knows_all is_incoming now)
          (λ seat v off e. others_of_reader h.reader h.sender h.history (Received k) n (n + k) seat v refl (omega arith) (λ (here : seat ≡ h.reader). off (here ∙ sym mine.0)) (h.views seat v e))),
      record { makes = record { before = h.history; knows = mine.1; last = refl; legal = leaves.legal }; view = refl; slots = refl },
    )

pub loads_out : (slots id least : ℕ) (x : List Entry) (l : ℕ) (cs : List (ℕ × Unit {0})) → Allows KeepsCredit slots id (Sending x l least, cs) 0 (λ n. n) (LoadedOut (step slots 0 0 0 none) (Sending x l least, cs))
loads_out slots id least x l cs s h len at fits =
    let n : ℕ = get_or s.words 0 0 in
    let mine : IsTrueOf h.reader h.sender h.history n id (Sending x l least) = h.views id (Sending x l least) at in (
      Sending h.history (l + 1) n,
      keeps,
      tt,
      credit_moved s cs id n (Sending h.history (l + 1) n) h.reader h.sender h.history h.words h.leaves (mine.0, knows_all is_outgoing h.history, (omega arith)) (λ seat v off e. h.views seat v e),
      record { learns = record { knows = mine.1; legal = h.leaves.legal }; held = h.leaves.held; total = word_small _ _ _ h.leaves; least = mine.2; view = refl; slots = refl },
    )

pub subtracts_used : (slots id least k : ℕ) (x : List Entry) (l : ℕ) (cs : List (ℕ × Unit {0})) → k ≤ least
    → Allows KeepsCredit slots id (Sending x l least, cs) 0 (λ n. (n + (2 ^ 64 - k)) % 2 ^ 64) (SubtractedUsed (step slots 0 k 0 none) (Sending x l least, cs))
subtracts_used slots id least k x l cs le s h len at fits =
    let n : ℕ = get_or s.words 0 0 in
    let now : List Entry = h.history ++ Used k ∷ [] in
    let mine : IsTrueOf h.reader h.sender h.history n id (Sending x l least) = h.views id (Sending x l least) at in
    let enough : least ≤ n = mine.2 in
    let is : (n + (2 ^ 64 - k)) % 2 ^ 64 ≡ n - k = no_borrow n k (omega arith) (omega arith) in
    let leaves : Leaves now (n - k) (get_or s.words 1 0) = leaves_used n _ k h.history (omega arith) h.leaves in
    let held = leaves.held in
    let total = leaves.total in
    let w : View = Sending now l (least - k) in (
      w,
      keeps,
      tt,
      subst (λ (z : ℕ). KeepsCredit (stepped s 0 z id cs w keeps)) (sym is)
          (credit_moved s cs id (n - k) w h.reader h.sender now h.words leaves (mine.0, knows_all is_outgoing now, (omega arith))
          (λ seat v off e. others_of_sender h.reader h.sender h.history (Used k) n (n - k) seat v refl (λ (here : seat ≡ h.sender). off (here ∙ sym mine.0)) (h.views seat v e))),
      record { makes = record { before = h.history; knows = mine.1; last = refl; legal = leaves.legal }; covered = omega arith; view = refl; slots = refl },
    )

pub adds_returned : (slots id least k : ℕ) (x : List Entry) (l : ℕ) (cs : List (ℕ × Unit {0})) → last_use x ≡ Some k
    → Allows KeepsCredit slots id (Sending x l least, cs) 0 (λ n. (n + k) % 2 ^ 64) (AddedReturned (step slots 0 k 0 none) (Sending x l least, cs))
adds_returned slots id least k x l cs le s h len at fits =
    let n : ℕ = get_or s.words 0 0 in
    let now : List Entry = h.history ++ Returned k ∷ [] in
    let mine : IsTrueOf h.reader h.sender h.history n id (Sending x l least) = h.views id (Sending x l least) at in
    let enough : least ≤ n = mine.2 in
    let leaves : Leaves now (n + k) (get_or s.words 1 0) = leaves_returned n _ k h.history (last_use_same x h.history mine.1 ∙ le) h.leaves in
    let small : n + k ≤ 2 ^ 62 = word_small _ _ _ leaves in
    let is : (n + k) % 2 ^ 64 ≡ n + k = no_wrap n k (omega arith) in
    let w : View = Sending now l (least + k) in (
      w,
      keeps,
      tt,
      subst (λ (z : ℕ). KeepsCredit (stepped s 0 z id cs w keeps)) (sym is)
          (credit_moved s cs id (n + k) w h.reader h.sender now h.words leaves (mine.0, knows_all is_outgoing now, (omega arith))
          (λ seat v off e. others_of_sender h.reader h.sender h.history (Returned k) n (n + k) seat v refl (λ (here : seat ≡ h.sender). off (here ∙ sym mine.0)) (h.views seat v e))),
      record { makes = record { before = h.history; knows = mine.1; last = refl; legal = leaves.legal }; view = refl; slots = refl },
    )

pub stores_asked : (slots id target : ℕ) (x : List Entry) (l : ℕ) (cs : List (ℕ × Unit {0})) → target ≤ max_amount
    → Allows KeepsCredit slots id (Reading x l, cs) 1 (λ _. target + 1) (λ _. StoredAsked (step slots 1 (target + 1) 0 none) (Reading x l, cs) (target + 1))
stores_asked slots id target x l cs small s h len at fits =
    let n : ℕ = get_or s.words 0 0 in
    let now : List Entry = h.history ++ Asked target ∷ [] in
    let mine : IsTrueOf h.reader h.sender h.history n id (Reading x l) = h.views id (Reading x l) at in
    let leaves : Leaves now n (target + 1) = leaves_asked n _ target h.history small h.leaves in
    let w : View = Reading now l in
    let is : target ≡ target + 1 - 1 = omega arith in (
      w,
      keeps,
      tt,
      asked_moved s cs id (target + 1) w h.reader h.sender now h.words leaves (mine.0, knows_all is_incoming now)
          (λ seat v off e. others_of_reader h.reader h.sender h.history (Asked target) n n seat v refl (omega arith) (λ (here : seat ≡ h.reader). off (here ∙ sym mine.0)) (h.views seat v e)),
      record { makes = subst (λ (k : ℕ). Makes is_incoming x (Asked k) now) is (record { before = h.history; knows = mine.1; last = refl; legal = leaves.legal }); view = refl; slots = refl },
    )

-- by what was found
takes_found : (s : State (Unit {0}) View) (id least : ℕ) (x : List Entry) (l : ℕ) (cs : List (ℕ × Unit {0})) (h : KeepsCredit s) (found : ℕ) → IsTrueOf h.reader h.sender h.history (get_or s.words 0 0) id (Sending x l least) → Leaves h.history (get_or s.words 0 0) found
    → (w : View) × KeepsCredit (stepped s 1 0 id cs w keeps) × TakesOut found x (seen_of w) × (w ≡ Sending (seen_of w) (l + 1) least)
takes_found s id least x l cs h zero mine leaves = (
  Sending h.history (l + 1) least,
  asked_moved s cs id 0 (Sending h.history (l + 1) least) h.reader h.sender h.history h.words leaves (mine.0, knows_all is_outgoing h.history, mine.2) (λ seat v off e. h.views seat v e),
  (record { knows = mine.1; legal = leaves.legal }, nothing_waits (waiting h.history) leaves.waits),
  refl,
)
takes_found s id least x l cs h (suc target) mine leaves =
    let n : ℕ = get_or s.words 0 0 in
    let now : List Entry = h.history ++ Taken target ∷ [] in
    let after : Leaves now n 0 = leaves_taken n target h.history leaves in (
      Sending now (l + 1) least,
      asked_moved s cs id 0 (Sending now (l + 1) least) h.reader h.sender now h.words after (mine.0, knows_all is_outgoing now, mine.2)
          (λ seat v off e. others_of_sender h.reader h.sender h.history (Taken target) n n seat v refl (λ (here : seat ≡ h.sender). off (here ∙ sym mine.0)) (h.views seat v e)),
      record { before = h.history; knows = mine.1; last = refl; legal = after.legal },
      refl,
    )

pub swaps_asked : (slots id least : ℕ) (x : List Entry) (l : ℕ) (cs : List (ℕ × Unit {0})) → Allows KeepsCredit slots id (Sending x l least, cs) 1 (λ _. 0) (SwappedAsked (step slots 1 0 0 none) (Sending x l least, cs))
swaps_asked slots id least x l cs s h len at fits =
    let f = takes_found s id least x l cs h (get_or s.words 1 0) (h.views id (Sending x l least) at) h.leaves in
    (f.0, keeps, tt, f.1, record { takes = f.2; target = h.leaves.target; view = f.3; slots = refl })

pub loads_last : (slots id : ℕ) (x : List Entry) (l : ℕ) (y : List Entry) (cs : List (ℕ × Unit {0})) → Allows KeepsCredit slots id (Both x l y, cs) 0 (λ n. n) (LoadedLast (step slots 0 0 0 none) (Both x l y, cs))
loads_last slots id x l y cs s h len at fits =
    let n : ℕ = get_or s.words 0 0 in
    let mine : IsTrueOf h.reader h.sender h.history n id (Both x l y) = h.views id (Both x l y) at in (
      Both x l y,
      keeps,
      tt,
      credit_moved s cs id n (Both x l y) h.reader h.sender h.history h.words h.leaves mine (λ seat v off e. h.views seat v e),
      record { same = refl; history = h.history; legal = h.leaves.legal; held = h.leaves.held; seen = mine.2; sent = mine.3 },
    )

pub splits : (id : ℕ) (x : List Entry) (l : ℕ) (y : List Entry) → Splits KeepsCredit id (Both x l y) (Reading x l) (Sending y 0 0)
splits id x l y s h at =
    let n : ℕ = get_or s.words 0 0 in
    let mine : IsTrueOf h.reader h.sender h.history n id (Both x l y) = h.views id (Both x l y) at in
    let vs : List View = set s.views id (Reading x l) in
    let Is : ℕ → View → Type 0 = IsTrueOf h.reader (length vs) h.history n in
    let now : Each Is vs = each_set Is s.views id (Reading x l) (mine.0, mine.2) (λ seat v off e. alone h.reader h.sender (length vs) h.history n id seat v mine.0 mine.1 off (h.views seat v e)) in
    record {
      reader = h.reader;
      sender = length vs;
      history = h.history;
      words = h.words;
      leaves = h.leaves;
      views = λ seat v e. ⊎_elim (λ was. now seat v was) (λ (is : (seat ≡ length vs) × (Sending y 0 0 ≡ v)). subst (λ (z : ℕ × View). Is z.0 z.1) (λ i. (sym is.0 i, is.1 i)) (refl, mine.3, (omega arith))) (at_end vs (Sending y 0 0) v seat e);
    }
  where
    alone : (reader sender now : ℕ) (history : List Entry) (word id seat : ℕ) (v : View) → id ≡ reader → id ≡ sender → seat ≢ id → IsTrueOf reader sender history word seat v → IsTrueOf reader now history word seat v
    alone reader sender now history word id seat (Reading x l) a b off is = is
    alone reader sender now history word id seat (Sending x l least) a b off is = absurd (off (is.0 ∙ sym b))
    alone reader sender now history word id seat (Both x l y) a b off is = absurd (off (is.0 ∙ sym a))
    alone reader sender now history word id seat Closed a b off is = tt

pub joins : (id : ℕ) (x : List Entry) (l other : ℕ) (y : List Entry) (m least : ℕ) → Joins KeepsCredit id (Reading x l) other (Sending y m least) (Both x l y) Closed
joins id x l other y m least s h at apart at' =
    let n : ℕ = get_or s.words 0 0 in
    let both : View = Both x l y in
    let vs : List View = set s.views id both in
    let mine : IsTrueOf h.reader h.sender h.history n id (Reading x l) = h.views id (Reading x l) at in
    let was : get_elem? s.views other ≡ some (Sending y m least) = ⊎_elim (λ (z : (other ≡ id) × (both ≡ Sending y m least)). absurd (apart z.0)) (λ (z : (other ≢ id) × (get_elem? s.views other ≡ some (Sending y m least))). z.1) (at_set s.views id other both (Sending y m least) at') in
    let theirs : IsTrueOf h.reader h.sender h.history n other (Sending y m least) = h.views other (Sending y m least) was in
    let Is : ℕ → View → Type 0 = IsTrueOf h.reader id h.history n in
    let Now : ℕ → View → Type 0 = λ seat v. seat ≢ other → Is seat v in
    let now : Each Now vs = each_set Now s.views id both (λ _. (mine.0, refl, mine.1, theirs.1)) (λ seat v off e not. rest h.reader h.sender h.history n id other seat v mine.0 theirs.0 off not (h.views seat v e)) in
    record { reader = h.reader; sender = id; history = h.history; words = h.words; leaves = h.leaves; views = each_set Is vs other Closed tt (λ seat v off e. now seat v e off) }
  where
    rest : (reader sender : ℕ) (history : List Entry) (word id other seat : ℕ) (v : View) → id ≡ reader → other ≡ sender → seat ≢ id → seat ≢ other → IsTrueOf reader sender history word seat v → IsTrueOf reader id history word seat v
    rest reader sender history word id other seat (Reading x l) a b off not is = absurd (off (is.0 ∙ sym a))
    rest reader sender history word id other seat (Sending x l least) a b off not is = absurd (not (is.0 ∙ sym b))
    rest reader sender history word id other seat (Both x l y) a b off not is = absurd (off (is.0 ∙ sym a))
    rest reader sender history word id other seat Closed a b off not is = tt
