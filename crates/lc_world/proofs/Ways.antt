-- What arrivals and takes alone can reach.
use Rattle.std.proofs.Common.{◌≡◌, ℕ, ◌≤◌, List, [], ◌∷◌, refl, sym, ap, ◌∙◌, inl, arith}
use Rattle.std.specs.List.{AllByRecursion}
use Rattle.lc_frame.specs.declared.frame.Frame.{Frame}
use Rattle.lc_frame.specs.Kind.{max_amount}
use Rattle.lc_world.specs.declared.event.Side.TheVariants.{A, B}
use Rattle.lc_world.specs.declared.event.Act.TheVariants.{Arrive}
use Rattle.lc_world.specs.declared.event.Event.{Event}
use Rattle.lc_world.specs.declared.event.Answer.{Answer}
use Rattle.lc_world.specs.declared.event.Answer.TheVariants.{Arrived}
use Rattle.lc_world.specs.State.{State, Line, arrive_first, arrive_on}
use Rattle.lc_world.specs.Answers.{arrival, arrive_answer, IsAnswerOf, IsAnswer, after}
use Rattle.lc_world.specs.Histories.{History, after_all, IsLegal}
use Rattle.lc_world.specs.Sound.{IsSound}
use Rattle.lc_world.proofs.Steps.{sound_step, same_capacity}
use Rattle.lc_world.proofs.Lawful.{SoundTo, no_violation, sound_to_a, sound_to_b}
use Rattle.lc_world.specs.Progress.{ComesOrTakes}

pub record Way (P : State → Type 0) (w : State) : Type 0 where
  pub later : History
  pub legal : IsLegal w later
  pub only : AllByRecursion (λ p. ComesOrTakes p.0.act) later
  pub there : P (after_all w later)

pub record Good (w : State) : Type 0 where
  pub sound : IsSound w
  pub small : w.capacity ≤ max_amount

pub good_step : (w : State) (e : Event) (a : Answer) → IsAnswer w e a → Good w → Good (after w e a)
good_step w e a right g = record { sound = sound_step w e.side e.act a right g.sound; small = omega (arith, g.small, same_capacity w e.side e.act a) }

pub here : (P : State → Type 0) (w : State) → P w → Way P w
here P w p = record { later = []; legal = tt; only = tt; there = p }

pub step : (P : State → Type 0) (w : State) (e : Event) (a : Answer) → IsAnswer w e a → ComesOrTakes e.act → Way P (after w e a) → Way P w
step P w e a right ok way = record { later = (e, a) ∷ way.later; legal = (right, way.legal); only = (ok, way.only); there = way.there }

along : (P Q : State → Type 0) (w : State) (later : History) → Good w → IsLegal w later → AllByRecursion (λ p. ComesOrTakes p.0.act) later → P (after_all w later) → ((v : State) → Good v → P v → Way Q v) → Way Q w
along P Q w [] g legal only p on = on w g p
along P Q w (x ∷ later) g legal only p on =
    step Q w x.0 x.1 legal.0 only.0 (along P Q (after w x.0 x.1) later (good_step w x.0 x.1 legal.0 g) legal.1 only.1 p on)

-- one way behind another
pub behind : (P Q : State → Type 0) (w : State) → Good w → Way P w → ((v : State) → Good v → P v → Way Q v) → Way Q w
behind P Q w g way on = along P Q w way.later g way.legal way.only way.there on

-- the first frame in flight can arrive
pub arrives : (capacity : ℕ) (small : capacity ≤ max_amount) (mine theirs : Line) (f : Frame) (rest : List Frame) → SoundTo capacity mine theirs → theirs.in_flight ≡ f ∷ rest → IsAnswerOf capacity mine theirs Arrive Arrived
arrives capacity small mine theirs f rest s e =
    inl (sym (ap (arrive_answer capacity mine theirs) e ∙ ap arrival (no_violation capacity small mine theirs s f rest e)))

arrived_rest : (l : Line) (f : Frame) (rest : List Frame) → l.in_flight ≡ f ∷ rest → (arrive_on l).in_flight ≡ rest
arrived_rest l f rest e = ap (λ (fs : List Frame). (arrive_first l fs).in_flight) e

pub record Still (w : State) : Type 0 where
  pub a : w.a.in_flight ≡ []
  pub b : w.b.in_flight ≡ []

abbrev StillB : State → Type 0
StillB w = w.b.in_flight ≡ []

still_b : (frames : List Frame) (w : State) → Good w → w.b.in_flight ≡ frames → Way StillB w
still_b [] w g e = here StillB w e
still_b (f ∷ rest) w g e =
    let ev : Event = record { side = A; act = Arrive } in
    let right : IsAnswer w ev Arrived = arrives w.capacity g.small w.a w.b f rest (sound_to_a w g.sound) e in
    step StillB w ev Arrived right tt (still_b rest (after w ev Arrived) (good_step w ev Arrived right g) (arrived_rest w.b f rest e))

still_a : (frames : List Frame) (w : State) → Good w → w.b.in_flight ≡ [] → w.a.in_flight ≡ frames → Way Still w
still_a [] w g b e = here Still w (record { a = e; b = b })
still_a (f ∷ rest) w g b e =
    let ev : Event = record { side = B; act = Arrive } in
    let right : IsAnswer w ev Arrived = arrives w.capacity g.small w.b w.a f rest (sound_to_b w g.sound) e in
    step Still w ev Arrived right tt (still_a rest (after w ev Arrived) (good_step w ev Arrived right g) b (arrived_rest w.a f rest e))

-- all that is in flight can arrive
pub still : (w : State) → Good w → Way Still w
still w g = behind StillB Still w g (still_b w.b.in_flight w g refl) (λ v h b. still_a v.a.in_flight v h b refl)
