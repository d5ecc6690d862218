-- What a Finish leaves: nothing of its client follows it on the stream, and what is waived is what the client held and what came since.
use Rattle.std.proofs.Common.{◌≡◌, ℕ, ◌+◌, Bool, true, false, List, [], ◌∷◌, ◌++◌, Option, Some, None, refl, sym, ap, subst, ◌∙◌, inl, inr, arith, append_assoc, append-nil}
use Rattle.std.specs.Prelude.{◌⊎◌, ◌-◌, ◌==◌, ◌||◌, if◌then◌else◌}
use Rattle.std.specs.List.{cons_option, list_any}
use Rattle.std.proofs.lemmas.Bool.{cases_Bool}
use Rattle.std.proofs.lemmas.Bool.Decides.{nat_tests}
use Rattle.lc_frame.specs.declared.channel.Channel.{Channel}
use Rattle.lc_frame.specs.declared.frame.Frame.{Frame}
use Rattle.lc_frame.specs.declared.frame.Frame.TheVariants as frame
use Rattle.lc_frame.specs.Channel.{channel_count, number_of, is_same}
use Rattle.lc_frame.specs.Frame.{lane_of}
use Rattle.lc_frame.specs.Stream.{of_lane, is_finish, on, cost, issued, absolved, finished}
use Rattle.lc_frame.proofs.Channels.{cases_same, number_below}
use Rattle.lc_frame.proofs.Measures.{cost-append, issued-append, absolved-append, finished-push, cost-one, absolved-one}
use Rattle.lc_book.specs.Client.{waived, held}
use Rattle.lc_book.specs.Server.{waived as waived_by}
use Rattle.lc_book.specs.Sums.{SumsAreOfLanes}
use Rattle.lc_book.proofs.Lanes.{every_sum_is_of_its_lane}
use Rattle.lc_world.specs.declared.event.Side.{Side}
use Rattle.lc_world.specs.declared.event.Side.TheVariants.{A, B}
use Rattle.lc_world.specs.declared.event.Act.{Act}
use Rattle.lc_world.specs.declared.event.Act.TheVariants.{Send, Issue, Plead, Absolve, Honour, LimitSending, LimitReceiving, Finish, Arrive, Deliver, Take}
use Rattle.lc_world.specs.declared.event.Event.{Event}
use Rattle.lc_world.specs.declared.event.Answer.{Answer}
use Rattle.lc_world.specs.declared.event.Answer.TheVariants.{Accepted, Absolved, NothingToAbsolve, Arrived, Delivered, Took}
use Rattle.lc_world.specs.State.{State, Versions, opening, Line, line, other, stream, client, client_book, server_book, arrive_first, arrive_on, deliver_on}
use Rattle.lc_world.specs.Answers.{frame_put, put_any, theirs_after, state_after, after}
use Rattle.lc_world.specs.Histories.{History, after_all, IsLegal, IsHistory, is_side}
use Rattle.lc_world.specs.Guarantee.{state_of, heard, IsCut, IsFinishedSince, ServerWaives, KeepsFinish}
use Rattle.lc_world.specs.Sound.{FitsAfter, AllFit, Sound, IsSound}
use Rattle.lc_world.proofs.Limits.{all_fit_rest}
use Rattle.lc_world.proofs.Streams.{puts, stream-all}
use Rattle.lc_world.proofs.Order.{stream-history}
use Rattle.lc_world.proofs.Delivers.{deliver_keeps}
use Rattle.lc_world.proofs.Histories.{after_append, sound_of}
use Rattle.lc_world.proofs.LimitsHold.{own_side}
use Rattle.lc_world.proofs.Pleads.{stays_finished}
use Rattle.lc_world.proofs.Sound.{none_waived, cost-cut, issued-cut, absolved-cut}

-- behind a Finish there is no frame of the client's lane
other_channel : (c d : Channel) (before : List Frame) → finished c before ≡ true → finished d before ≡ false → is_same d c ≡ false
other_channel c d before done unfinished =
    elim (cases_same d c) [
      | inl same ↦ absurd (let e : finished d before ≡ finished c before = ap (λ (k : Channel). finished k before) same in cc)
      | inr apart ↦ apart
    ]

of_server : (c d : Channel) → (channel_count + number_of d == number_of c) ≡ false
of_server c d = let small = number_below c in grind (arith, nat_tests)

not_of_lane : (c : Channel) (before : List Frame) (f : Frame) → finished c before ≡ true → FitsAfter before f → (lane_of f == number_of c) ≡ false
not_of_lane c before (frame.Send d body) done fits = other_channel c d before done fits.1
not_of_lane c before (frame.Absolve d n) done fits = other_channel c d before done fits
not_of_lane c before (frame.LimitSending d bound) done fits = other_channel c d before done fits.1
not_of_lane c before (frame.Finish d) done fits = other_channel c d before done fits
not_of_lane c before (frame.Issue d n) done fits = of_server c d
not_of_lane c before (frame.Plead d target) done fits = of_server c d
not_of_lane c before (frame.LimitReceiving d bound) done fits = of_server c d

none_behind : (c : Channel) (before frames : List Frame) → finished c before ≡ true → AllFit before frames → of_lane (number_of c) frames ≡ []
none_behind c before [] done fits = refl
none_behind c before (f ∷ frames) done fits =
    ap (λ (b : Bool). if b then f ∷ of_lane (number_of c) frames else of_lane (number_of c) frames) (not_of_lane c before f done fits.0)
    ∙ none_behind c (before ++ f ∷ []) frames (stays_finished c before (f ∷ []) (before ++ f ∷ []) refl done) fits.1

-- so nothing is spent there and nothing absolved
record UsesNothing (c : Channel) (frames : List Frame) : Type 0 where
  spent : cost c frames ≡ 0
  given_up : absolved c frames ≡ 0

uses_nothing : (c : Channel) (frames : List Frame) → of_lane (number_of c) frames ≡ [] → UsesNothing c frames
uses_nothing c frames none =
    let sums : SumsAreOfLanes c frames = every_sum_is_of_its_lane c frames in
    record { spent = sym sums.cost_is ∙ ap (cost c) none; given_up = sym sums.absolved_is ∙ ap (absolved c) none }

or_true : (b : Bool) → (b || true) ≡ true
or_true true = refl
or_true false = refl

finish_is_there : (c : Channel) (before : List Frame) → finished c (before ++ frame.Finish c ∷ []) ≡ true
finish_is_there c before = finished-push before (frame.Finish c) ∙ or_true (finished c before)

-- frames come to arrive at a side, and none goes
abbrev Came : List Frame → List Frame → Type 0
Came old new = (came : List Frame) × (new ≡ old ++ came)

came_none : (old new : List Frame) → new ≡ old → Came old new
came_none old new same = ([], same ∙ sym (append-nil old))

came_both : (old between new : List Frame) → Came old between → Came between new → Came old new
came_both old between new x y = (x.0 ++ y.0, y.1 ∙ (ap (λ (fs : List Frame). fs ++ y.0) x.1 ∙ append_assoc old x.0 y.0))

one_came : (frames : List Frame) (l : Line) → Came l.arrived (arrive_first l frames).arrived
one_came [] l = came_none l.arrived l.arrived refl
one_came (f ∷ rest) l = (f ∷ [], refl)

came_by_bytes : (count : ℕ) (l : Line) → Came l.arrived (deliver_on count l).arrived
came_by_bytes count l = deliver_keeps (λ (x : Line). Came l.arrived x.arrived) (record { begins = λ x m n h. h; arrives = λ x h. came_both l.arrived x.arrived (arrive_on x).arrived h (one_came x.in_flight x) }) count l (came_none l.arrived l.arrived refl)

came_to_reader : (mine theirs : Line) (act : Act) (a : Answer) → Came theirs.arrived (theirs_after mine theirs act a).arrived
came_to_reader mine theirs Arrive Arrived = one_came theirs.in_flight theirs
came_to_reader mine theirs (Deliver count) (Delivered bytes frames) = came_by_bytes count theirs
came_to_reader mine theirs (Take c) (Took body) = came_none theirs.arrived theirs.arrived refl
came_to_reader mine theirs (Honour c) (Absolved n) = came_none theirs.arrived theirs.arrived refl
came_to_reader mine theirs (Honour c) NothingToAbsolve = came_none theirs.arrived theirs.arrived refl
came_to_reader mine theirs act a = came_none theirs.arrived theirs.arrived refl

came_to_writer : (l : Line) (o : Option Frame) → Came l.arrived (put_any l o).arrived
came_to_writer l None = came_none l.arrived l.arrived refl
came_to_writer l (Some f) = came_none l.arrived l.arrived refl

came_step : (w : State) (side : Side) (act : Act) (a : Answer) (s : Side) → Came (heard s w) (heard s (state_after w side act a))
came_step w A act a A = came_to_reader w.a w.b act a
came_step w A act a B = came_to_writer w.a (frame_put act a)
came_step w B act a A = came_to_writer w.b (frame_put act a)
came_step w B act a B = came_to_reader w.b w.a act a

came_all : (w : State) (history : History) (s : Side) → Came (heard s w) (heard s (after_all w history))
came_all w [] s = came_none (heard s w) (heard s w) refl
came_all w (p ∷ history) s =
    let next : State = after w p.0 p.1 in
    came_both (heard s w) (heard s next) (heard s (after_all next history)) (came_step w p.0.side p.0.act p.1 s) (came_all next history s)

-- the client's book of two lines, where a Finish was put on the first and more came on the second
module _ (capacity : ℕ) (c : Channel) (mine theirs mine' theirs' : Line) (came behind : List Frame) where
  waives_all : Sound capacity c mine theirs → finished c (stream mine) ≡ false → stream mine' ≡ stream mine ++ frame.Finish c ∷ behind → UsesNothing c behind → theirs'.arrived ≡ theirs.arrived ++ came → waived (client_book c mine' theirs') ≡ held (client_book c mine theirs) + issued c came
  waives_all sound unfinished put none heard_is =
      let f : Frame = frame.Finish c in
      let done : finished c (stream mine') ≡ true = stays_finished c (stream mine ++ f ∷ []) behind (stream mine') (put ∙ sym (append_assoc (stream mine) (f ∷ []) behind)) (finish_is_there c (stream mine)) in
      let left : ℕ = issued c theirs'.arrived - cost c (stream mine') - absolved c (stream mine') in
      let all : waived (client_book c mine' theirs') ≡ left = ap (λ (b : Bool). if b then left else 0) done in
      omega (
        arith,
        all,
        sound.solvent,
        none_waived (finished c (stream mine)) (issued c theirs.arrived - cost c (stream mine) - absolved c (stream mine)) unfinished,
        ap (issued c) heard_is ∙ issued-append c theirs.arrived came,
        ap (cost c) put ∙ cost-append c (stream mine) (f ∷ behind),
        ap (absolved c) put ∙ absolved-append c (stream mine) (f ∷ behind),
        cost-append c (f ∷ []) behind,
        absolved-append c (f ∷ []) behind,
        cost-one f,
        absolved-one f,
        none.spent,
        none.given_up,
      )

-- what a history with a Finish leaves, from the state in which that was accepted
legal_front : (w : State) (earlier later : History) → IsLegal w (earlier ++ later) → IsLegal w earlier
legal_front w [] later h = tt
legal_front w (p ∷ earlier) later h = (h.0, legal_front (after w p.0 p.1) earlier later h.1)

puts_first : (s : Side) (act : Act) (f : Frame) (later : History) → frame_put act Accepted ≡ Some f → puts s ((record { side = s; act = act }, Accepted) ∷ later) ≡ f ∷ puts s later
puts_first s act f later e =
    ap (λ (b : Bool). cons_option (if b then frame_put act Accepted else None) (puts s later)) (own_side s)
    ∙ ap (λ (o : Option Frame). cons_option o (puts s later)) e

finished_since : (s : Side) (c : Channel) (before : State) (later : History) → IsSound before → IsSound (after_all before ((record { side = s; act = Finish c }, Accepted) ∷ later)) → IsFinishedSince s c before (after_all before ((record { side = s; act = Finish c }, Accepted) ∷ later))
finished_since s c before later sound sound' =
    let rest : History = (record { side = s; act = Finish c }, Accepted) ∷ later in
    let w : State = after_all before rest in
    let came = came_all before rest s in
    let f : Frame = frame.Finish c in
    let put : stream (line w s) ≡ stream (line before s) ++ f ∷ puts s later = stream-all before rest s ∙ ap (λ (fs : List Frame). stream (line before s) ++ fs) (puts_first s (Finish c) f later refl) in
    let fits : AllFit (stream (line before s)) (f ∷ puts s later) = all_fit_rest [] (stream (line before s)) (f ∷ puts s later) (subst (λ (fs : List Frame). AllFit [] fs) put (sound'.limits s)) in
    let none : of_lane (number_of c) (puts s later) ≡ [] = none_behind c (stream (line before s) ++ f ∷ []) (puts s later) (finish_is_there c (stream (line before s))) fits.1 in
    record {
      came = came.0;
      heard_is = came.1;
      behind = puts s later;
      put_is = put;
      is_last = none;
      waived_is = waives_all before.capacity c (line before s) (line before (other s)) (line w s) (line w (other s)) came.0 (puts s later) (sound.sums s c) fits.0 put (uses_nothing c (puts s later) none) came.1;
    }

since : (capacity : ℕ) (versions : Versions) (history : History) → IsHistory capacity versions history → (s : Side) (c : Channel) (later : History) (cut : IsCut history s (Finish c) later) → IsFinishedSince s c (state_of capacity versions cut.0) (state_of capacity versions history)
since capacity versions history h s c later cut =
    let start : State = opening capacity versions in
    let rest : History = (record { side = s; act = Finish c }, Accepted) ∷ later in
    let before : State = state_of capacity versions cut.0 in
    let is : state_of capacity versions history ≡ after_all before rest = ap (after_all start) cut.1 ∙ after_append start cut.0 rest in
    let earlier : IsHistory capacity versions cut.0 = record { is_capacity = h.is_capacity; legal = legal_front start cut.0 rest (subst (IsLegal start) cut.1 h.legal) } in
    subst (λ (w : State). IsFinishedSince s c before w) (sym is)
    (finished_since s c before later (sound_of capacity versions cut.0 earlier) (subst IsSound is (sound_of capacity versions history h)))

-- where a stream has a Finish, the history has one that was accepted
passes_over : (b : Bool) (f : Frame) (fs : List Frame) → is_finish f ≡ false → list_any is_finish (if b then f ∷ fs else fs) ≡ true → list_any is_finish fs ≡ true
passes_over true f fs other e = sym (ap (λ (x : Bool). x || list_any is_finish fs) other) ∙ e
passes_over false f fs other e = e

abbrev IsFinishOn : Channel → Act → Answer → Type 0
IsFinishOn c act a = (act ≡ Finish c) × (a ≡ Accepted)

finish_comes : (c d : Channel) (frames : List Frame) → finished c (frame.Finish d ∷ frames) ≡ true → IsFinishOn c (Finish d) Accepted ⊎ (finished c frames ≡ true)
finish_comes c d frames e =
    elim (cases_same c d) [
      | inl same ↦ inl (ap (λ (k : Channel). Finish k) (sym same), refl)
      | inr apart ↦ inr (sym (ap (λ (b : Bool). list_any is_finish (if b then frame.Finish d ∷ on c frames else on c frames)) apart) ∙ e)
    ]

abbrev FinishesOrHas : Channel → List Frame → Act → Answer → Type 0
FinishesOrHas c frames act a = finished c (cons_option (frame_put act a) frames) ≡ true → IsFinishOn c act a ⊎ (finished c frames ≡ true)

finishes : (c : Channel) (frames : List Frame) (act : Act) (a : Answer) → FinishesOrHas c frames act a
finishes c frames (Finish d) Accepted e = finish_comes c d frames e
finishes c frames (Send d body) Accepted e = inr (passes_over (is_same c d) (frame.Send d body) (on c frames) refl e)
finishes c frames (Issue d n) Accepted e = inr (passes_over (is_same c d) (frame.Issue d n) (on c frames) refl e)
finishes c frames (Plead d n) Accepted e = inr (passes_over (is_same c d) (frame.Plead d n) (on c frames) refl e)
finishes c frames (Absolve d n) Accepted e = inr (passes_over (is_same c d) (frame.Absolve d n) (on c frames) refl e)
finishes c frames (Honour d) (Absolved n) e = inr (passes_over (is_same c d) (frame.Absolve d n) (on c frames) refl e)
finishes c frames (LimitSending d n) Accepted e = inr (passes_over (is_same c d) (frame.LimitSending d n) (on c frames) refl e)
finishes c frames (LimitReceiving d n) Accepted e = inr (passes_over (is_same c d) (frame.LimitReceiving d n) (on c frames) refl e)
finishes c frames Arrive Accepted e = inr e
finishes c frames (Deliver count) Accepted e = inr e
finishes c frames (Take d) Accepted e = inr e
finishes c frames act a e = inr e

same_side : (s side : Side) → is_side s side ≡ true → side ≡ s
same_side A A e = refl
same_side A B e = cc
same_side B A e = cc
same_side B B e = refl

abbrev HasFinish : Side → Channel → History → Type 0
HasFinish s c history = (later : History) × IsCut history s (Finish c) later

cut_here : (s side : Side) (c : Channel) (act : Act) (a : Answer) (later : History) → side ≡ s → IsFinishOn c act a → HasFinish s c ((record { side = side; act = act }, a) ∷ later)
cut_here s side c act a later same is = (
  later,
  (
    [],
    ap (λ (x : Side). (record { side = x; act = act }, a) ∷ later) same
        ∙ (ap (λ (x : Act). (record { side = s; act = x }, a) ∷ later) is.0
        ∙ ap (λ (x : Answer). (record { side = s; act = Finish c }, x) ∷ later) is.1),
  ),
)

cut_later : (s : Side) (c : Channel) (p : Event × Answer) (history : History) → HasFinish s c history → HasFinish s c (p ∷ history)
cut_later s c p history h = (h.0, (p ∷ h.1.0, ap (λ (x : History). p ∷ x) h.1.1))

has_finish : (s : Side) (c : Channel) (history : History) → finished c (puts s history) ≡ true → HasFinish s c history
has_finish s c [] e = absurd (let no : false ≡ true = e in cc)
has_finish s c (p ∷ history) e =
    elim (cases_Bool (is_side s p.0.side)) [
      | inl own ↦ elim (finishes c (puts s history) p.0.act p.1 (sym (ap (λ (b : Bool). finished c (cons_option (if b then frame_put p.0.act p.1 else None) (puts s history))) own) ∙ e)) [
        | inl is ↦ cut_here s p.0.side c p.0.act p.1 history (same_side s p.0.side own) is
        | inr has ↦ cut_later s c p history (has_finish s c history has)
      ]
      | inr apart ↦ cut_later s c p history (has_finish s c history (sym (ap (λ (b : Bool). finished c (cons_option (if b then frame_put p.0.act p.1 else None) (puts s history))) apart) ∙ e))
    ]

never : (capacity : ℕ) (versions : Versions) (history : History) (s : Side) (c : Channel) → ((later : History) → IsCut history s (Finish c) later → ⊥) → waived (client (state_of capacity versions history) s c) ≡ 0
never capacity versions history s c none =
    let w : State = state_of capacity versions history in
    elim (cases_Bool (finished c (stream (line w s)))) [
      | inl done ↦ absurd (let has : HasFinish s c history = has_finish s c history (ap (finished c) (sym (stream-history capacity versions history s)) ∙ done) in none has.0 has.1)
      | inr unfinished ↦ none_waived (finished c (stream (line w s))) _ unfinished
    ]

-- the of_server book, by the client's line and its own
module _ (capacity : ℕ) (c : Channel) (mine theirs : Line) (s : Sound capacity c mine theirs) (fits : AllFit [] (stream mine)) where
  waived_alike : finished c mine.arrived ≡ true → issued c (stream theirs) - cost c mine.arrived - absolved c mine.arrived ≡ waived (client_book c mine theirs) + issued c theirs.in_flight
  waived_alike arrived =
      let done : finished c (stream mine) ≡ true = stays_finished c mine.arrived mine.in_flight (stream mine) refl arrived in
      let left : ℕ = issued c theirs.arrived - cost c (stream mine) - absolved c (stream mine) in
      let all : waived (client_book c mine theirs) ≡ left = ap (λ (b : Bool). if b then left else 0) done in
      let none : UsesNothing c mine.in_flight = uses_nothing c mine.in_flight (none_behind c mine.arrived mine.in_flight arrived (all_fit_rest [] mine.arrived mine.in_flight fits)) in
      omega (arith, all, s.solvent, none.spent, none.given_up, cost-cut c mine, absolved-cut c mine, issued-cut c theirs)

  as_waived : (b : Bool) → finished c mine.arrived ≡ b → (if b then issued c (stream theirs) - cost c mine.arrived - absolved c mine.arrived else 0) ≡ (if b then waived (client_book c mine theirs) + issued c theirs.in_flight else 0)
  as_waived true arrived = waived_alike arrived
  as_waived false arrived = refl

  waived_by_server : waived_by (server_book capacity c theirs mine) ≡ (if finished c mine.arrived then waived (client_book c mine theirs) + issued c theirs.in_flight else 0)
  waived_by_server = as_waived (finished c mine.arrived) refl

waived_on : (w : State) → IsSound w → (s : Side) (c : Channel) → ServerWaives w s c
waived_on w g A c = waived_by_server w.capacity c w.a w.b (g.sums A c) (g.limits A)
waived_on w g B c = waived_by_server w.capacity c w.b w.a (g.sums B c) (g.limits B)

pub keeps_finish : (capacity : ℕ) (versions : Versions) (history : History) → IsHistory capacity versions history → (s : Side) (c : Channel) → KeepsFinish capacity versions history s c
keeps_finish capacity versions history h s c = record {
  never_finished = never capacity versions history s c;
  since_finish = since capacity versions history h s c;
  server_waives = waived_on (state_of capacity versions history) (sound_of capacity versions history h) s c;
}
