-- Each step keeps the rule of a shared inbox.
use Rattle.std.proofs.Common.{◌≡◌, ◌≢◌, ◌⊎◌, ℕ, zero, suc, ◌+◌, ◌≤◌, ◌==◌, Bool, true, false, List, [], ◌∷◌, ◌++◌, length, set, get_or, Option, Some, None, sym, refl, ap, ◌∙◌, subst, ⊎_elim, inl, inr, arith, length-set, get_or-set_same}
use Rattle.std.specs.Prelude.{filter}
use mathlib.Core.Option.{some, some-ne-none, some-injective}
use lib.ListN.{get_elem?}
use prog.Atomic.{either}
use Rattle.atomic_table.specs.Table.{State, Act, Valid, opening, keeps, takes, gives, stepped, carried_after, Allows, Splits, Joins}
use Rattle.atomic_table.proofs.Lists.{at_set, set_here, exchanged}
use Rattle.lc_inbox.specs.declared.history.Entry.{Entry}
use Rattle.lc_inbox.specs.declared.rule.Key.{Key}
use Rattle.lc_inbox.specs.declared.rule.View.{View}
use Rattle.lc_inbox.specs.declared.rule.View.TheVariants.{Idle, Has, Both, Closed}
use Rattle.lc_inbox.specs.Ends.{Held}
use Rattle.lc_history.specs.History.{Knows}
use Rattle.lc_history.proofs.Histories.{knows_more, knows_all}
use Rattle.lc_inbox.specs.History.{is_of, IsLeftBy, Loan}
use Rattle.lc_inbox.specs.Sides.{InboxId, Half, HasTaken}
use Rattle.lc_inbox.specs.Rule.{seen_of, turns_of, loan_of, word_of, other, reading_of, receiving_of, both_of, IsTrueOf, IsHome, KeepsInbox, Seated, seated_of, Takes, Seized, Returned, TakesLast, SeizedLast}

abbrev Each : (ℕ → View → Type 0) → List View → Type 0
Each F views = (j : ℕ) (u : View) → get_elem? views j ≡ some u → F j u

each_set : (F : ℕ → View → Type 0) (views : List View) (seat : ℕ) (w : View) → F seat w → ((j : ℕ) (u : View) → j ≢ seat → get_elem? views j ≡ some u → F j u) → Each F (set views seat w)
each_set F views seat w mine others j u e = ⊎_elim (λ (x : (j ≡ seat) × (w ≡ u)). subst (λ (y : ℕ × View). F y.0 y.1) (λ i. (sym x.0 i, x.1 i)) mine)
    (λ (x : (j ≢ seat) × (get_elem? views j ≡ some u)). others j u x.0 x.1) (at_set views seat j w u e)

at_end : (l : List View) (a b : View) (j : ℕ) → get_elem? (l ++ a ∷ []) j ≡ some b → (get_elem? l j ≡ some b) ⊎ ((j ≡ length l) × (a ≡ b))
at_end [] a b zero e = inr (refl, some-injective a b e)
at_end [] a b (suc j) e = absurd (some-ne-none b (sym e))
at_end (x ∷ xs) a b zero e = inl e
at_end (x ∷ xs) a b (suc j) e = ⊎_elim (λ t. inl t) (λ t. inr (ap suc t.0, t.1)) (at_end xs a b j e)

-- the numbers of the two sides
word_is_some : (b : Bool) → word_of b ≡ 0 → ⊥
word_is_some true e = omega arith
word_is_some false e = omega arith

word_is_small : (b : Bool) → word_of b ≤ 2
word_is_small true = omega arith
word_is_small false = omega arith

-- while the word was 0 no side had the inbox; then one takes it
freed : (key : Key) (seats : Bool → ℕ) (log : List Entry) (word id j : ℕ) (b : Bool) (v : View) → word ≡ 0 → seats b ≡ id → j ≢ id → IsTrueOf key seats log word j v → IsTrueOf key seats log (word_of b) j v
freed key seats log word id j true (Idle k true x m) z at off h = absurd (off (sym h.1 ∙ at))
freed key seats log word id j true (Idle k false x m) z at off h = (h.0, h.1, h.2, λ e. absurd (omega (arith, e)))
freed key seats log word id j false (Idle k true x m) z at off h = (h.0, h.1, h.2, λ e. absurd (omega (arith, e)))
freed key seats log word id j false (Idle k false x m) z at off h = absurd (off (sym h.1 ∙ at))
freed key seats log word id j b (Has k true x m y) z at off h = let w : word ≡ 1 = h.4 in absurd (omega arith)
freed key seats log word id j b (Has k false x m y) z at off h = let w : word ≡ 2 = h.4 in absurd (omega arith)
freed key seats log word id j true (Both k x y) z at off h = absurd (off (sym h.1 ∙ at))
freed key seats log word id j false (Both k x y) z at off h = absurd (off (sym h.2 ∙ at))
freed key seats log word id j b Closed z at off h = tt

-- one side gives the inbox back, with entries of its own
given : (key : Key) (seats : Bool → ℕ) (log : List Entry) (word : ℕ) (b : Bool) (entries : List Entry) (j : ℕ) (v : View) → word ≡ word_of b → filter (is_of (other b)) entries ≡ [] → j ≢ seats b → IsTrueOf key seats log word j v → IsTrueOf key seats (log ++ entries) 0 j v
given key seats log word true entries j (Idle k true z m) e alien off h = absurd (off (sym h.1))
given key seats log word true entries j (Idle k false z m) e alien off h = (h.0, h.1, knows_more (is_of false) z log entries alien h.2, λ n. word_is_some false (sym n))
given key seats log word false entries j (Idle k true z m) e alien off h = (h.0, h.1, knows_more (is_of true) z log entries alien h.2, λ n. word_is_some true (sym n))
given key seats log word false entries j (Idle k false z m) e alien off h = absurd (off (sym h.1))
given key seats log word true entries j (Has k true z m y) e alien off h = absurd (off (sym h.1))
given key seats log word true entries j (Has k false z m y) e alien off h = let a : word ≡ 1 = e in let w : word ≡ 2 = h.4 in absurd (omega arith)
given key seats log word false entries j (Has k true z m y) e alien off h = let a : word ≡ 2 = e in let w : word ≡ 1 = h.4 in absurd (omega arith)
given key seats log word false entries j (Has k false z m y) e alien off h = absurd (off (sym h.1))
given key seats log word true entries j (Both k z y) e alien off h = absurd (off (sym h.1))
given key seats log word false entries j (Both k z y) e alien off h = absurd (off (sym h.2))
given key seats log word true entries j Closed e alien off h = tt
given key seats log word false entries j Closed e alien off h = tt

-- where one seat has both sides, no other has one
alone : (key : Key) (seats now : Bool → ℕ) (log : List Entry) (word then id j : ℕ) (v : View) → seats true ≡ id → seats false ≡ id → j ≢ id → IsTrueOf key seats log word j v → IsTrueOf key now log then j v
alone key seats now log word then id j (Idle k true x m) a b off f = absurd (off (sym f.1 ∙ a))
alone key seats now log word then id j (Idle k false x m) a b off f = absurd (off (sym f.1 ∙ b))
alone key seats now log word then id j (Has k true x m y) a b off f = absurd (off (sym f.1 ∙ a))
alone key seats now log word then id j (Has k false x m y) a b off f = absurd (off (sym f.1 ∙ b))
alone key seats now log word then id j (Both k x y) a b off f = absurd (off (sym f.1 ∙ a))
alone key seats now log word then id j Closed a b off f = tt

-- the word becomes z, and one seat has a new view
moved : (key : Key) (s : State (Option Held) View) (cs : List (ℕ × Option Held)) (id z : ℕ) (w : View) (a : Act (Option Held)) (seats : Bool → ℕ) (log : List Entry) → length s.words ≡ 1 → z ≤ 2
    → (z ≡ 0 → IsHome key (stepped s 0 z id cs w a) log)
    → IsTrueOf key seats log z id w → ((j : ℕ) (u : View) → j ≢ id → get_elem? s.views j ≡ some u → IsTrueOf key seats log z j u) → KeepsInbox key (stepped s 0 z id cs w a)
moved key s cs id z w a seats log one small home mine others =
    let at : z ≡ get_or (set s.words 0 z) 0 0 = sym (get_or-set_same s.words 0 z 0 (omega arith)) in
    record {
      seats = seats;
      history = log;
      words = length-set s.words 0 z ∙ one;
      word = subst (λ (n : ℕ). n ≤ 2) at small;
      home = subst (λ (n : ℕ). n ≡ 0 → IsHome key (stepped s 0 z id cs w a) log) at home;
      views = subst (λ (n : ℕ). Each (IsTrueOf key seats log n) (set s.views id w)) at (each_set (IsTrueOf key seats log z) s.views id w mine others);
    }

pub begins : (key : Key) (t : Held) → IsLeftBy key t [] → KeepsInbox key (opening (0 ∷ []) (Some t ∷ []) (Both key [] []))
begins key t f = record { seats = λ _. 0; history = []; words = refl; word = omega arith; home = λ _. record { inbox = t; there = refl; left = f }; views = one }
  where
    one : (j : ℕ) (u : View) → get_elem? (Both key [] [] ∷ []) j ≡ some u → IsTrueOf key (λ _. 0) [] 0 j u
    one zero u e = subst (IsTrueOf key (λ _. 0) [] 0 0) (some-injective _ _ e) (refl, refl, refl, knows_all (is_of true) [], knows_all (is_of false) [], refl)
    one (suc j) u e = absurd (some-ne-none u (sym e))

-- nothing is taken, and nothing moves
stays : (key : Key) (s : State (Option Held) View) (id n : ℕ) (w : View) (h : KeepsInbox key s) → n ≡ get_or s.words 0 0 → IsTrueOf key h.seats h.history n id w → KeepsInbox key (stepped s 0 n id [] w keeps)
stays key s id n w h same mine = moved key s [] id n w keeps h.seats h.history h.words (subst (λ (m : ℕ). m ≤ 2) (sym same) h.word)
    (λ e. let t = h.home (sym same ∙ e) in record { inbox = t.inbox; there = t.there; left = t.left })
    mine
    (λ j u off e. subst (λ (m : ℕ). IsTrueOf key h.seats h.history m j u) (sym same) (h.views j u e))

pub seizes : (key : Key) (slots id : ℕ) (k : Key) (b : Bool) (x : List Entry) (m : ℕ) → Allows (KeepsInbox key) slots id (Idle k b x m, []) 0 (λ n. either (n == 0) (word_of b) n) (Seized (Idle k b x m, []))
seizes key slots id k b x m s h len at wide =
    let n : ℕ = get_or s.words 0 0 in
    let seats : Bool → ℕ = h.seats in
    let log : List Entry = h.history in
    let mine : IsTrueOf key seats log n id (Idle k b x m) = h.views id (Idle k b x m) at in
    exchanged n 0 (word_of b) (λ (z : ℕ). (w : View) × (a : Act (Option Held)) × Valid s.homes [] a × KeepsInbox key (stepped s 0 z id [] w a) × Seized (Idle k b x m, []) n (w, carried_after [] a))
    (λ free.
    let t = h.home free in
    let w : View = Has k b x (m + 1) log in (
      w,
      takes 0 (Some t.inbox),
      t.there,
      moved key s [] id (word_of b) w (takes 0 (Some t.inbox)) seats log h.words (word_is_small b) (λ e. absurd (word_is_some b e)) (mine.0, mine.1, mine.2, refl, refl) (λ j u off e. freed key seats log n id j b u free mine.1 off (h.views j u e)),
      ((λ _. record { held = t.inbox; history = log; is = refl; knows = mine.2; left = subst (λ (z : Key). IsLeftBy z t.inbox log) (sym mine.0) t.left }), (λ taken. absurd (taken free))),
    ))
    (λ taken. (Idle k b x m, keeps, tt, stays key s id n (Idle k b x m) h refl mine, ((λ free. absurd (taken free)), (λ _. refl))))

pub returns : (key : Key) (id : ℕ) (k : Key) (b : Bool) (x y entries : List Entry) (m : ℕ) (t : Held) → filter (is_of (other b)) entries ≡ [] → IsLeftBy k t (y ++ entries)
    → Allows (KeepsInbox key) 1 id (Has k b x m y, (0, Some t) ∷ []) 0 (λ _. 0) (λ _ w. Returned entries (Has k b x m y, (0, Some t) ∷ []) w)
returns key id k b x y entries m t alien f s h len at wide =
    let n : ℕ = get_or s.words 0 0 in
    let seats : Bool → ℕ = h.seats in
    let log : List Entry = h.history in
    let mine : IsTrueOf key seats log n id (Has k b x m y) = h.views id (Has k b x m y) at in
    let same : log ++ entries ≡ y ++ entries = ap (λ (l : List Entry). l ++ entries) mine.3 in (
      Idle k b (y ++ entries) m,
      gives,
      tt,
      moved key s ((0, Some t) ∷ []) id 0 (Idle k b (y ++ entries) m) gives seats (log ++ entries) h.words (omega arith)
          (λ _. record { inbox = t; there = set_here s.homes 0 (some (Some t)) (omega arith); left = subst (λ (p : Key × List Entry). IsLeftBy p.0 t p.1) (λ i. (mine.0 i, sym same i)) f })
          (mine.0, mine.1, subst (λ (l : List Entry). Knows (is_of b) l (log ++ entries)) same (knows_all (is_of b) (log ++ entries)), λ e. word_is_some b (sym e)) (λ j u off e. given key seats log n b entries j u mine.4 alien (λ i_is. off (i_is ∙ mine.1)) (h.views j u e)),
      refl,
    )

-- both sides take it for good
pub seizes_last : (key : Key) (slots id : ℕ) (k : Key) (x y : List Entry) → Allows (KeepsInbox key) slots id (Both k x y, []) 0 (λ n. either (n == 0) 1 n) (SeizedLast (Both k x y, []))
seizes_last key slots id k x y s h len at wide =
    let n : ℕ = get_or s.words 0 0 in
    let seats : Bool → ℕ = h.seats in
    let log : List Entry = h.history in
    let mine : IsTrueOf key seats log n id (Both k x y) = h.views id (Both k x y) at in
    exchanged n 0 1 (λ (z : ℕ). (w : View) × (a : Act (Option Held)) × Valid s.homes [] a × KeepsInbox key (stepped s 0 z id [] w a) × SeizedLast (Both k x y, []) n (w, carried_after [] a))
    (λ free.
    let t = h.home free in (
      Closed,
      takes 0 (Some t.inbox),
      t.there,
      moved key s [] id 1 Closed (takes 0 (Some t.inbox)) seats log h.words (omega arith) (λ e. absurd (word_is_some true e)) tt (λ j u off e. alone key seats seats log n 1 id j u mine.1 mine.2 off (h.views j u e)),
      (free, record { held = t.inbox; history = log; is = refl; reads = mine.3; receives = mine.4; left = subst (λ (z : Key). IsLeftBy z t.inbox log) (sym mine.0) t.left }),
    ))
    (λ taken. absurd (taken mine.5))

pub splits : (key : Key) (id : ℕ) (k : Key) (x y : List Entry) → Splits (KeepsInbox key) id (Both k x y) (Idle k true x 0) (Idle k false y 0)
splits key id k x y s h at =
    let n : ℕ = get_or s.words 0 0 in
    let log : List Entry = h.history in
    let mine : IsTrueOf key h.seats log n id (Both k x y) = h.views id (Both k x y) at in
    let vs : List View = set s.views id (Idle k true x 0) in
    let F : ℕ → View → Type 0 = IsTrueOf key (two id (length vs)) log n in
    let free : (b : Bool) → n ≢ word_of b = λ b e. word_is_some b (sym e ∙ mine.5) in
    let now : Each F vs = each_set F s.views id (Idle k true x 0) (mine.0, refl, mine.3, free true) (λ j v off e. alone key h.seats (two id (length vs)) log n n id j v mine.1 mine.2 off (h.views j v e)) in
    record {
      seats = two id (length vs);
      history = log;
      words = h.words;
      word = h.word;
      home = λ e. let t = h.home e in record { inbox = t.inbox; there = t.there; left = t.left };
      views = λ j v e. ⊎_elim (λ was. now j v was) (λ (is : (j ≡ length vs) × (Idle k false y 0 ≡ v)). subst (λ (z : ℕ × View). F z.0 z.1) (λ i. (sym is.0 i, is.1 i)) (mine.0, refl, mine.4, free false)) (at_end vs (Idle k false y 0) v j e);
    }
  where
    two : ℕ → ℕ → Bool → ℕ
    two a b true = a
    two a b false = b

-- no side has the inbox, so the word is 0
neither : (n : ℕ) → n ≤ 2 → n ≢ 1 → n ≢ 2 → n ≡ 0
neither zero small a b = refl
neither (suc zero) small a b = absurd (a refl)
neither (suc (suc zero)) small a b = absurd (b refl)
neither (suc (suc (suc n))) small a b = absurd (omega arith)

pub joins : (key : Key) (id : ℕ) (k : Key) (x : List Entry) (m theirs : ℕ) (l : Key) (y : List Entry) (m' : ℕ) → Joins (KeepsInbox key) id (Idle k true x m) theirs (Idle l false y m') (Both k x y) Closed
joins key id k x m theirs l y m' s h at apart at' =
    let n : ℕ = get_or s.words 0 0 in
    let log : List Entry = h.history in
    let both : View = Both k x y in
    let vs : List View = set s.views id both in
    let mine : IsTrueOf key h.seats log n id (Idle k true x m) = h.views id (Idle k true x m) at in
    let was : get_elem? s.views theirs ≡ some (Idle l false y m') =
    ⊎_elim (λ (z : (theirs ≡ id) × (both ≡ Idle l false y m')). absurd (apart z.0)) (λ (z : (theirs ≢ id) × (get_elem? s.views theirs ≡ some (Idle l false y m'))). z.1) (at_set s.views id theirs both (Idle l false y m') at') in
    let yours : IsTrueOf key h.seats log n theirs (Idle l false y m') = h.views theirs (Idle l false y m') was in
    let Is : ℕ → View → Type 0 = IsTrueOf key (λ _. id) log n in
    let Now : ℕ → View → Type 0 = λ j v. j ≢ theirs → Is j v in
    let now : Each Now vs = each_set Now s.views id both (λ _. (mine.0, refl, refl, mine.2, yours.2, neither n h.word mine.3 yours.3)) (λ j v off e not. parted key h.seats (λ _. id) log n id theirs j v mine.1 yours.1 off not (h.views j v e)) in
    record {
      seats = λ _. id;
      history = log;
      words = h.words;
      word = h.word;
      home = λ e. let t = h.home e in record { inbox = t.inbox; there = t.there; left = t.left };
      views = each_set Is vs theirs Closed tt (λ j v off e. now j v e off);
    }
  where
    parted : (key : Key) (seats now : Bool → ℕ) (log : List Entry) (word id theirs j : ℕ) (v : View) → seats true ≡ id → seats false ≡ theirs → j ≢ id → j ≢ theirs → IsTrueOf key seats log word j v → IsTrueOf key now log word j v
    parted key seats now log word id theirs j (Idle k true x m) a b off not f = absurd (off (sym f.1 ∙ a))
    parted key seats now log word id theirs j (Idle k false x m) a b off not f = absurd (not (sym f.1 ∙ b))
    parted key seats now log word id theirs j (Has k true x m y) a b off not f = absurd (off (sym f.1 ∙ a))
    parted key seats now log word id theirs j (Has k false x m y) a b off not f = absurd (not (sym f.1 ∙ b))
    parted key seats now log word id theirs j (Both k x y) a b off not f = absurd (off (sym f.1 ∙ a))
    parted key seats now log word id theirs j Closed a b off not f = tt

-- the steps, at a seat that is known
pub may_seize : (key : Key) (slots id : ℕ) (k : Key) (b : Bool) (x : List Entry) (m : ℕ) (me : Seated) (word : ℕ) → word ≡ word_of b → me ≡ (Idle k b x m, []) → Allows (KeepsInbox key) slots id me 0 (λ n. either (n == 0) word n) (Seized me)
may_seize key slots id k b x m me word at is = subst (λ (p : ℕ × Seated). Allows (KeepsInbox key) slots id p.1 0 (λ n. either (n == 0) p.0 n) (Seized p.1)) (λ i. (sym at i, sym is i)) (seizes key slots id k b x m)

pub may_return : (key : Key) (slots id : ℕ) (k : Key) (b : Bool) (x y entries : List Entry) (m : ℕ) (t : Held) (me : Seated) → slots ≡ 1 → me ≡ (Has k b x m y, (0, Some t) ∷ []) → filter (is_of (other b)) entries ≡ [] → IsLeftBy k t (y ++ entries)
    → Allows (KeepsInbox key) slots id me 0 (λ _. 0) (λ _ w. Returned entries me w)
may_return key slots id k b x y entries m t me one is alien f = subst (λ (p : ℕ × Seated). Allows (KeepsInbox key) p.0 id p.1 0 (λ _. 0) (λ _ w. Returned entries p.1 w)) (λ i. (sym one i, sym is i)) (returns key id k b x y entries m t alien f)

pub may_split : (key : Key) (id : ℕ) (k : Key) (x y : List Entry) (v : View) → v ≡ Both k x y → Splits (KeepsInbox key) id v (reading_of v) (receiving_of v)
may_split key id k x y v is = subst (λ (u : View). Splits (KeepsInbox key) id u (reading_of u) (receiving_of u)) (sym is) (splits key id k x y)

pub idle_me : (k : Key) (b : Bool) (x : List Entry) (m : ℕ) (l : Option Loan) (me : Seated) → l ≡ None → me ≡ seated_of k b x m l → me ≡ (Idle k b x m, [])
idle_me k b x m l me e is = is ∙ ap (λ (o : Option Loan). seated_of k b x m o) e

pub idle_as : (k : Key) (side b : Bool) (x : List Entry) (m : ℕ) (l : Option Loan) (me : Seated) → side ≡ b → l ≡ None → me ≡ seated_of k side x m l → me ≡ (Idle k b x m, [])
idle_as k side b x m l me is e at = idle_me k side x m l me e at ∙ ap (λ (c : Bool). (Idle k c x m, [])) is

pub has_me : (k : Key) (b : Bool) (x : List Entry) (m : ℕ) (t : Loan) (l : Option Loan) (me : Seated) → l ≡ Some t → me ≡ seated_of k b x m l → me ≡ (Has k b x m t.history, (0, Some t.held) ∷ [])
has_me k b x m t l me e is = is ∙ ap (λ (o : Option Loan). seated_of k b x m o) e

pub seized : (k : Key) (b : Bool) (x : List Entry) (m : ℕ) (me w : Seated) (n : ℕ) → me ≡ (Idle k b x m, []) → Seized me n w → (n ≡ 0 → Takes k b x m w) × (n ≢ 0 → w ≡ (Idle k b x m, []))
seized k b x m me w n is h = subst (λ (v : Seated). Seized v n w) is h

-- a half whose seat has taken the inbox
pub has_taken : (i j : InboxId) (k : Key) (b : Bool) (me w : Seated) (old : Half) → record { inbox = i; key = k; side = b; seen = seen_of me.0; turns = turns_of me.0; lent = loan_of me } ≡ old → j ≡ i → Takes k b (seen_of me.0) (turns_of me.0) w
    → HasTaken old record { inbox = j; key = k; side = b; seen = seen_of w.0; turns = turns_of w.0; lent = loan_of w }
has_taken i j k b me w old was same t =
    let new : Half = record { inbox = j; key = k; side = b; seen = seen_of w.0; turns = turns_of w.0; lent = loan_of w } in
    subst (λ (h : Half). HasTaken h new) was record {
      loan = record { history = t.history; held = t.held };
      is = λ n. record { inbox = same n; key = k; side = b; seen = seen_of (t.is n).0; turns = turns_of (t.is n).0; lent = loan_of (t.is n) };
      knows = t.knows;
      left = t.left;
    }

pub may_join : (key : Key) (id : ℕ) (k : Key) (x : List Entry) (m theirs : ℕ) (l : Key) (y : List Entry) (m' : ℕ) (v w : View) → v ≡ Idle k true x m → w ≡ Idle l false y m' → Joins (KeepsInbox key) id v theirs w (both_of v w) Closed
may_join key id k x m theirs l y m' v w is is' = subst (λ (u : View × View). Joins (KeepsInbox key) id u.0 theirs u.1 (both_of u.0 u.1) Closed) (λ i. (sym is i, sym is' i)) (joins key id k x m theirs l y m')

-- both sides have come together
pub together : (k l : Key) (x y : List Entry) (m m' : ℕ) (me theirs new : Seated) → new ≡ (both_of me.0 theirs.0, me.1) → me ≡ (Idle k true x m, []) → theirs ≡ (Idle l false y m', []) → new ≡ (Both k x y, [])
together k l x y m m' me theirs new is one two = is ∙ (λ i. (both_of (one i).0 (two i).0, (one i).1))

pub may_seize_last : (key : Key) (slots id : ℕ) (k : Key) (x y : List Entry) (me : Seated) → me ≡ (Both k x y, []) → Allows (KeepsInbox key) slots id me 0 (λ n. either (n == 0) 1 n) (SeizedLast me)
may_seize_last key slots id k x y me is = subst (λ (m : Seated). Allows (KeepsInbox key) slots id m 0 (λ n. either (n == 0) 1 n) (SeizedLast m)) (sym is) (seizes_last key slots id k x y)

pub seized_last : (k : Key) (x y : List Entry) (me w : Seated) (n : ℕ) → me ≡ (Both k x y, []) → SeizedLast me n w → (n ≡ 0) × TakesLast k x y w
seized_last k x y me w n is h = subst (λ (m : Seated). SeizedLast m n w) is h
