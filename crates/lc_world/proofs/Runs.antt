-- A history with one event more.
use Rattle.std.proofs.Common.{◌≡◌, ℕ, ◌+◌, ◌<◌, ◌≤◌, List, [], ◌∷◌, ◌++◌, length, get_or, take, refl, ap, subst, arith}
use Rattle.std.specs.List.{zip}
use Rattle.std.proofs.lemmas.List.{take_all, take_more, length-take-le}
use Rattle.lc_world.specs.declared.event.Event.{Event}
use Rattle.lc_world.specs.declared.event.Answer.{Answer}
use Rattle.lc_frame.specs.declared.version.Version.TheVariants.{One}
use Rattle.lc_world.specs.declared.event.Side.{Side}
use Rattle.lc_world.specs.declared.event.Side.TheVariants.{A, B}
use Rattle.lc_world.specs.State.{State, Versions, by_side}
use Rattle.lc_world.specs.Answers.{IsAnswer, after}
use Rattle.lc_world.specs.Histories.{History, IsLegal, after_all}
use Rattle.lc_world.proofs.Histories.{legal_append, after_append}

pub legal_push : (w : State) (h : History) (e : Event) (a : Answer) → IsLegal w h → IsAnswer (after_all w h) e a → IsLegal w (h ++ (e, a) ∷ [])
legal_push w h e a l s = legal_append w h ((e, a) ∷ []) l (s, tt)

pub after_push : (w : State) (h : History) (e : Event) (a : Answer) → after_all w (h ++ (e, a) ∷ []) ≡ after (after_all w h) e a
after_push w h e a = after_append w h ((e, a) ∷ [])

zip_push : {A B : Type 0} (xs : List A) (ys : List B) (x : A) (y : B) → length xs ≡ length ys → zip (xs ++ x ∷ []) (ys ++ y ∷ []) ≡ zip xs ys ++ (x, y) ∷ []
zip_push [] [] x y e = refl
zip_push [] (b ∷ ys) x y e = absurd (omega arith)
zip_push (a ∷ xs) [] x y e = absurd (omega arith)
zip_push (a ∷ xs) (b ∷ ys) x y e = ap (λ ps. (a, b) ∷ ps) (zip_push xs ys x y (omega arith))

-- the events so far with their answers, after one more
pub zip_more : (events : List Event) (answers : List Answer) (i : ℕ) (d : Event) (a : Answer) → i < length events → length answers ≡ i → zip (take (i + 1) events) (answers ++ a ∷ []) ≡ zip (take i events) answers ++ (get_or events i d, a) ∷ []
zip_more events answers i d a lt e =
    rw (take_more events i d lt) (zip_push (take i events) answers (get_or events i d) a (omega (arith, length-take-le i events)))

-- at the end of the loop all events have answers
pub legal_whole : (w : State) (i : ℕ) (events : List Event) (answers : List Answer) → length events ≤ i → IsLegal w (zip (take i events) answers) → IsLegal w (zip events answers)
legal_whole w i events answers le h = subst (λ es. IsLegal w (zip es answers)) (take_all i events le) h

-- version One on both sides
one_each : (s : Side) → by_side (One ∷ One ∷ []) s ≡ One
one_each A = refl
one_each B = refl

pub one_twice : (let ones : Versions = λ s. One in by_side (One ∷ One ∷ []) ≡ ones)
one_twice = λ i s. one_each s i
