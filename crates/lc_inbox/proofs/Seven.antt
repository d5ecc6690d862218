-- Lists of seven, and what is made of each of their elements.
use Rattle.std.proofs.Common.{◌≡◌, ◌<◌, ℕ, suc, List, [], ◌∷◌, ◌++◌, Some, length, length-append, get_or, slice_index_or, map, refl, arith, subst, sym, ap, ap₂, ◌∙◌}
use Rattle.std.specs.List.{AllByRecursion, AllZip}
use Rattle.std.specs.Array.{list_steps}
use Rattle.std.specs.Iterator.{Yields}
use Rattle.lc_book.specs.Server.{Server}
use Rattle.lc_queue.specs.Parts.{End}
use Rattle.lc_inbox.specs.Inboxes.{IsNewShared, inbox_of, AreNew, AreMatched, AreFinished}
use Rattle.lc_inbox.specs.Sides.{InboxSide, AreOfOne, IsFinished}

-- one element more of each list
pub zip_push : {A B : Type 0} (R : A → B → Type 0) (xs : List A) (ys : List B) (x : A) (y : B) → AllZip R xs ys → R x y → AllZip R (xs ++ x ∷ []) (ys ++ y ∷ [])
zip_push R [] [] x y all one = (one, tt)
zip_push R [] (b ∷ ys) x y all one = absurd all
zip_push R (a ∷ xs) [] x y all one = absurd all
zip_push R (a ∷ xs) (b ∷ ys) x y all one = (all.0, zip_push R xs ys x y all.1 one)

-- a list of which nothing is left
pub walked_length : {A : Type 0} (xs ys whole : List A) → xs ++ ys ≡ whole → length ys ≡ 0 → length xs ≡ length whole
walked_length xs ys whole is none = let e = sym (length-append xs ys) ∙ ap length is in omega (arith, e, none)

-- what holds of each element holds of each that comes
pub came : {A : Type 0} (P : A → Type 0) (all xs t u : List A) (x : A) → AllByRecursion P all → Yields list_steps all xs t → list_steps t (Some x) u → P x
came P all [] t u x each same is = (subst (AllByRecursion P) (same ∙ is) each).0
came P all (y ∷ xs) t u x each more is = came P more.0 xs t u x (subst (AllByRecursion P) more.1 each).1 more.2 is

-- what holds at each place of two lists of one length
pub zip_of : {A B : Type 0} (R : A → B → Type 0) (xs : List A) (ys : List B) → length xs ≡ length ys → ((i : ℕ) (d : A) (e : B) → i < length ys → R (slice_index_or xs i d) (slice_index_or ys i e)) → AllZip R xs ys
zip_of R [] [] same at = tt
zip_of R [] (y ∷ ys) same at = absurd (omega (arith, same))
zip_of R (x ∷ xs) [] same at = absurd (omega (arith, same))
zip_of R (x ∷ xs) (y ∷ ys) same at = (at 0 x y (omega arith), zip_of R xs ys (omega (arith, same)) (λ i d e few. at (suc i) d e (omega (arith, few))))

-- what is made of each element by a rule
pub map_of : {A B : Type 0} (f : A → B) (xs : List A) (ys : List B) → AllZip (λ x y. y ≡ f x) xs ys → ys ≡ map f xs
map_of f [] [] all = refl
map_of f [] (y ∷ ys) all = absurd all
map_of f (x ∷ xs) [] all = absurd all
map_of f (x ∷ xs) (y ∷ ys) all = ap₂ (λ z zs. z ∷ zs) all.0 (map_of f xs ys all.1)

one_more : {A : Type 0} (x a : A) (xs ys : List A) → a ≡ x → xs ≡ ys → x ∷ xs ≡ a ∷ ys
one_more x a xs ys e h = cc

none_left : {A : Type 0} (xs : List A) → length xs ≡ 0 → xs ≡ []
none_left [] h = refl
none_left (x ∷ xs) h = absurd (omega arith)

-- seven places are all that a list of seven has
pub seven_of : {A : Type 0} (xs : List A) (a b c d e f g : A) → length xs ≡ 7 → a ≡ get_or xs 0 a → b ≡ get_or xs 1 b → c ≡ get_or xs 2 c → d ≡ get_or xs 3 d → e ≡ get_or xs 4 e → f ≡ get_or xs 5 f → g ≡ get_or xs 6 g
    → xs ≡ a ∷ b ∷ c ∷ d ∷ e ∷ f ∷ g ∷ []
seven_of [] a b c d e f g n h0 h1 h2 h3 h4 h5 h6 = absurd (omega arith)
seven_of (x0 ∷ []) a b c d e f g n h0 h1 h2 h3 h4 h5 h6 = absurd (omega arith)
seven_of (x0 ∷ x1 ∷ []) a b c d e f g n h0 h1 h2 h3 h4 h5 h6 = absurd (omega arith)
seven_of (x0 ∷ x1 ∷ x2 ∷ []) a b c d e f g n h0 h1 h2 h3 h4 h5 h6 = absurd (omega arith)
seven_of (x0 ∷ x1 ∷ x2 ∷ x3 ∷ []) a b c d e f g n h0 h1 h2 h3 h4 h5 h6 = absurd (omega arith)
seven_of (x0 ∷ x1 ∷ x2 ∷ x3 ∷ x4 ∷ []) a b c d e f g n h0 h1 h2 h3 h4 h5 h6 = absurd (omega arith)
seven_of (x0 ∷ x1 ∷ x2 ∷ x3 ∷ x4 ∷ x5 ∷ []) a b c d e f g n h0 h1 h2 h3 h4 h5 h6 = absurd (omega arith)
seven_of (x0 ∷ x1 ∷ x2 ∷ x3 ∷ x4 ∷ x5 ∷ x6 ∷ xs) a b c d e f g n h0 h1 h2 h3 h4 h5 h6 =
    one_more x0 a _ _ h0 (one_more x1 b _ _ h1 (one_more x2 c _ _ h2 (one_more x3 d _ _ h3 (one_more x4 e _ _ h4 (one_more x5 f _ _ h5 (one_more x6 g _ _ h6 (none_left xs (omega arith))))))))

new_from : (capacities : List ℕ) (lanes : List End) (shared : List (InboxSide × InboxSide)) → AllZip (IsNewShared capacities) lanes shared → AreNew capacities lanes (map (λ p. p.0) shared) (map (λ p. p.1) shared)
new_from capacities [] [] all = tt
new_from capacities [] (s ∷ shared) all = absurd all
new_from capacities (l ∷ lanes) [] all = absurd all
new_from capacities (l ∷ lanes) (s ∷ shared) all = (all.0, new_from capacities lanes shared all.1)

-- the sides of each inbox, by place
pub parts_are_new : (capacities : List ℕ) (lanes : List End) (shared : List (InboxSide × InboxSide)) (incoming outgoing : List InboxSide) → AllZip (IsNewShared capacities) lanes shared → incoming ≡ map (λ p. p.0) shared → outgoing ≡ map (λ p. p.1) shared → AreNew capacities lanes incoming outgoing
parts_are_new capacities lanes shared incoming outgoing all reading receiving = subst (λ (p : List InboxSide × List InboxSide). AreNew capacities lanes p.0 p.1) (λ i. (sym reading i, sym receiving i)) (new_from capacities lanes shared all)

-- both sides of each inbox, where they are matched
pub pairs_match : (pairs : List (InboxSide × InboxSide)) (incoming outgoing : List InboxSide) → map (λ p. p.0) pairs ≡ incoming → map (λ p. p.1) pairs ≡ outgoing → AreMatched incoming outgoing → AllByRecursion (λ p. AreOfOne p.0 p.1) pairs
pairs_match pairs incoming outgoing reading receiving matched = each pairs (subst (λ (p : List InboxSide × List InboxSide). AreMatched p.0 p.1) (λ i. (sym reading i, sym receiving i)) matched)
  where
    each : (ps : List (InboxSide × InboxSide)) → AreMatched (map (λ p. p.0) ps) (map (λ p. p.1) ps) → AllByRecursion (λ p. AreOfOne p.0 p.1) ps
    each [] m = tt
    each (p ∷ ps) m = (cc, each ps (cc))

finished_from : (pairs : List (InboxSide × InboxSide)) (ended : List (Server × End)) → AllZip (λ p e. IsFinished p.0 p.1 e.0 e.1) pairs ended → AreFinished (map (λ p. p.0) pairs) (map (λ p. p.1) pairs) (map (λ e. e.0) ended) (map (λ e. e.1) ended)
finished_from [] [] all = tt
finished_from [] (e ∷ ended) all = absurd all
finished_from (p ∷ pairs) [] all = absurd all
finished_from (p ∷ pairs) (e ∷ ended) all = (all.0, finished_from pairs ended all.1)

-- what each inbox leaves, by place
pub parts_are_finished : (pairs : List (InboxSide × InboxSide)) (ended : List (Server × End)) (incoming outgoing : List InboxSide) (books : List Server) (lanes : List End) → AllZip (λ p e. IsFinished p.0 p.1 e.0 e.1) pairs ended → map (λ p. p.0) pairs ≡ incoming → map (λ p. p.1) pairs ≡ outgoing → books ≡ map (λ e. e.0) ended → lanes ≡ map (λ e. e.1) ended
    → AreFinished incoming outgoing books lanes
parts_are_finished pairs ended incoming outgoing books lanes all reading receiving books_are lanes_are =
    subst (λ (p : (List InboxSide × List InboxSide) × (List Server × List End)). AreFinished p.0.0 p.0.1 p.1.0 p.1.1) (λ i. ((reading i, receiving i), (sym books_are i, sym lanes_are i))) (finished_from pairs ended all)

-- both sides of new inboxes are matched
pub new_are_matched : (capacities : List ℕ) (lanes : List End) (incoming outgoing : List InboxSide) → AreNew capacities lanes incoming outgoing → AreMatched incoming outgoing
new_are_matched capacities [] [] [] new = refl
new_are_matched capacities [] [] (o ∷ outgoing) new = absurd new
new_are_matched capacities [] (i ∷ incoming) outgoing new = absurd new
new_are_matched capacities (l ∷ lanes) [] outgoing new = absurd new
new_are_matched capacities (l ∷ lanes) (i ∷ incoming) [] new = absurd new
new_are_matched capacities (l ∷ lanes) (i ∷ incoming) (o ∷ outgoing) new = one_more i.inbox o.inbox _ _ (ap inbox_of new.0.one) (new_are_matched capacities lanes incoming outgoing new.1)
