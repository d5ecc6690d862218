-- Nothing wedges.
use Rattle.std.proofs.Common.{◌≡◌, ℕ, ◌+◌, ◌<◌, List, [], ◌∷◌, ◌++◌, length, get_or, drop, Option, None, refl, sym, ap, ◌∙◌, subst, inl, inr, arith}
use Rattle.std.specs.Prelude.{if◌then◌else◌, Bool, true, false}
use Rattle.std.specs.List.{AllByRecursion, cons_option}
use Rattle.std.proofs.lemmas.List.{drop_more, length-drop}
use Rattle.lc_frame.specs.declared.channel.Channel.{Channel}
use Rattle.lc_frame.specs.declared.channel.Channel.TheVariants.{Reconciliation, Data, Overlap, Capability, AreaOfInterest, PayloadRequest, StaticToken}
use Rattle.lc_frame.specs.Channel.{number_of}
use Rattle.lc_frame.specs.Stream.{messages}
use Rattle.lc_frame.proofs.Channels.{cases_same}
use Rattle.lc_world.specs.declared.event.Side.{Side}
use Rattle.lc_world.specs.declared.event.Side.TheVariants.{A, B}
use Rattle.lc_world.specs.declared.event.Act.{Act}
use Rattle.lc_world.specs.declared.event.Act.TheVariants.{Send, Issue, Plead, Absolve, Honour, LimitSending, LimitReceiving, Finish, Arrive, Deliver, Take}
use Rattle.lc_world.specs.declared.event.Event.{Event}
use Rattle.lc_world.specs.declared.event.Answer.{Answer}
use Rattle.lc_world.specs.declared.event.Answer.TheVariants.{Took}
use Rattle.lc_world.specs.State.{State, Line, opening, line, other, taken_count, take_on, server_book}
use Rattle.lc_world.specs.Answers.{waiting, take_answer, IsAnswerOf, IsAnswer, after}
use Rattle.lc_world.specs.Histories.{History, IsHistory, is_side, at_side, sent_body, accepted}
use Rattle.lc_world.specs.Guarantee.{state_of}
use Rattle.lc_world.proofs.Sound.{count-here, count-elsewhere}
use Rattle.lc_world.proofs.Order.{accepted_messages, taken_is_taken}
use Rattle.lc_world.specs.Progress.{ComesOrTakes, NothingWedges}
use Rattle.lc_world.proofs.Histories.{legal_append, after_append, capacity_stays, sound_of}
use Rattle.lc_world.proofs.Quiet.{taken_put}
use Rattle.lc_world.proofs.Ways.{Way, Good, good_step, here, step, behind, Still, still}

-- the first message that waits can be taken
takes : (capacity : ℕ) (c : Channel) (mine theirs : Line) (body : List ℕ) (rest : List (List ℕ)) → waiting c theirs ≡ body ∷ rest → IsAnswerOf capacity mine theirs (Take c) (Took body)
takes capacity c mine theirs body rest e = inl (sym (ap (take_answer (server_book capacity c mine theirs)) e))

-- and leaves the rest
rest_is : (ms : List (List ℕ)) (t : ℕ) (body : List ℕ) (rest : List (List ℕ)) → drop t ms ≡ body ∷ rest → drop (t + 1) ms ≡ rest
rest_is ms t body rest e =
    let lt : t < length ms = omega (arith, length-drop t ms, ap length e) in
    let more : drop t ms ≡ get_or ms t [] ∷ drop (t + 1) ms = drop_more ms t [] lt in
    cc

took_rest : (c : Channel) (l : Line) (body : List ℕ) (rest : List (List ℕ)) → number_of c < length l.taken → waiting c l ≡ body ∷ rest → waiting c (take_on c l) ≡ rest
took_rest c l body rest places e =
    ap (λ (t : ℕ). drop t (messages c l.arrived)) (count-here c l places) ∙ rest_is (messages c l.arrived) (taken_count c l) body rest e

not_both : (ms : List (List ℕ)) (body : List ℕ) (rest : List (List ℕ)) → ms ≡ body ∷ rest → ms ≡ [] → ⊥
not_both ms body rest e f = absurd (omega (arith, ap length e, ap length f))

-- a channel that was dry stays so
stays_dry : (c d : Channel) (l : Line) (body : List ℕ) (rest : List (List ℕ)) → waiting c l ≡ body ∷ rest → waiting d l ≡ [] → waiting d (take_on c l) ≡ []
stays_dry c d l body rest e dry =
    elim (cases_same d c) [
      | inl same ↦ absurd (not_both (waiting c l) body rest e (subst (λ (k : Channel). waiting k l ≡ []) same dry))
      | inr apart ↦ ap (λ (t : ℕ). drop t (messages d l.arrived)) (count-elsewhere d c l apart) ∙ dry
    ]

abbrev IsDry : State → (Side × Channel) → Type 0
IsDry w p = waiting p.1 (line w p.0) ≡ []

pub record Dry (places : List (Side × Channel)) (w : State) : Type 0 where
  pub still : Still w
  pub dry : AllByRecursion (λ p. IsDry w p) places

abbrev taking : Side → Channel → Event
taking s c = record { side = other s; act = Take c }

take_right : (w : State) (s : Side) (c : Channel) (body : List ℕ) (rest : List (List ℕ)) → waiting c (line w s) ≡ body ∷ rest → IsAnswer w (taking s c) (Took body)
take_right w A c body rest e = takes w.capacity c w.b w.a body rest e
take_right w B c body rest e = takes w.capacity c w.a w.b body rest e

still_stays : (w : State) (s : Side) (c : Channel) (body : List ℕ) → Still w → Still (after w (taking s c) (Took body))
still_stays w A c body h = record { a = h.a; b = h.b }
still_stays w B c body h = record { a = h.a; b = h.b }

dry_stays : (w : State) (s : Side) (c : Channel) (body : List ℕ) (rest : List (List ℕ)) → waiting c (line w s) ≡ body ∷ rest → (r : Side) (d : Channel) → waiting d (line w r) ≡ [] → waiting d (line (after w (taking s c) (Took body)) r) ≡ []
dry_stays w A c body rest e A d dry = stays_dry c d w.a body rest e dry
dry_stays w A c body rest e B d dry = dry
dry_stays w B c body rest e A d dry = dry
dry_stays w B c body rest e B d dry = stays_dry c d w.b body rest e dry

all_stay : (w : State) (s : Side) (c : Channel) (body : List ℕ) (rest : List (List ℕ)) → waiting c (line w s) ≡ body ∷ rest → (places : List (Side × Channel)) → AllByRecursion (λ p. IsDry w p) places → AllByRecursion (λ p. IsDry (after w (taking s c) (Took body)) p) places
all_stay w s c body rest e [] h = tt
all_stay w s c body rest e (p ∷ places) h = (dry_stays w s c body rest e p.0 p.1 h.0, all_stay w s c body rest e places h.1)

left_is : (w : State) (s : Side) (c : Channel) (body : List ℕ) (rest : List (List ℕ)) → Good w → waiting c (line w s) ≡ body ∷ rest → waiting c (line (after w (taking s c) (Took body)) s) ≡ rest
left_is w A c body rest g e = took_rest c w.a body rest (g.sound.sums A c).places e
left_is w B c body rest g e = took_rest c w.b body rest (g.sound.sums B c).places e

-- one channel can be taken dry
drain_one : (ms : List (List ℕ)) (w : State) (s : Side) (c : Channel) (places : List (Side × Channel)) → Good w → waiting c (line w s) ≡ ms → Dry places w → Way (Dry ((s, c) ∷ places)) w
drain_one [] w s c places g e h = here (Dry ((s, c) ∷ places)) w (record { still = h.still; dry = (e, h.dry) })
drain_one (body ∷ rest) w s c places g e h =
    let right : IsAnswer w (taking s c) (Took body) = take_right w s c body rest e in
    let next : State = after w (taking s c) (Took body) in
    step (Dry ((s, c) ∷ places)) w (taking s c) (Took body) right tt
    (drain_one rest next s c places (good_step w (taking s c) (Took body) right g) (left_is w s c body rest g e)
    (record { still = still_stays w s c body h.still; dry = all_stay w s c body rest e places h.dry }))

-- and then another
drain_all : (places : List (Side × Channel)) (w : State) → Good w → Still w → Way (Dry places) w
drain_all [] w g h = here (Dry []) w (record { still = h; dry = tt })
drain_all (p ∷ places) w g h =
    behind (Dry places) (Dry (p ∷ places)) w g (drain_all places w g h) (λ v k d. drain_one (waiting p.1 (line v p.0)) v p.0 p.1 places k refl d)

abbrev every_place : List (Side × Channel)
every_place =
    (A, Reconciliation) ∷ (A, Data) ∷ (A, Overlap) ∷ (A, Capability) ∷ (A, AreaOfInterest) ∷ (A, PayloadRequest) ∷ (A, StaticToken)
    ∷ (B, Reconciliation) ∷ (B, Data) ∷ (B, Overlap) ∷ (B, Capability) ∷ (B, AreaOfInterest) ∷ (B, PayloadRequest) ∷ (B, StaticToken) ∷ []

at_place : (w : State) → AllByRecursion (λ p. IsDry w p) every_place → (s : Side) (c : Channel) → waiting c (line w s) ≡ []
at_place w h A Reconciliation = h.0
at_place w h A Data = h.1.0
at_place w h A Overlap = h.1.1.0
at_place w h A Capability = h.1.1.1.0
at_place w h A AreaOfInterest = h.1.1.1.1.0
at_place w h A PayloadRequest = h.1.1.1.1.1.0
at_place w h A StaticToken = h.1.1.1.1.1.1.0
at_place w h B Reconciliation = h.1.1.1.1.1.1.1.0
at_place w h B Data = h.1.1.1.1.1.1.1.1.0
at_place w h B Overlap = h.1.1.1.1.1.1.1.1.1.0
at_place w h B Capability = h.1.1.1.1.1.1.1.1.1.1.0
at_place w h B AreaOfInterest = h.1.1.1.1.1.1.1.1.1.1.1.0
at_place w h B PayloadRequest = h.1.1.1.1.1.1.1.1.1.1.1.1.0
at_place w h B StaticToken = h.1.1.1.1.1.1.1.1.1.1.1.1.1.0

still_at : (w : State) → Still w → (s : Side) → (line w s).in_flight ≡ []
still_at w h A = h.a
still_at w h B = h.b

pub drained : (w : State) → Good w → Way (Dry every_place) w
drained w g = behind Still (Dry every_place) w g (still w g) (λ v h q. drain_all every_place v h q)

-- arrivals and takes accept nothing
accepts_none : (c : Channel) (act : Act) (a : Answer) → ComesOrTakes act → sent_body c act a ≡ None
accepts_none c Arrive a h = refl
accepts_none c (Take d) a h = refl
accepts_none c (Send d body) a h = absurd h
accepts_none c (Issue d n) a h = absurd h
accepts_none c (Plead d n) a h = absurd h
accepts_none c (Absolve d n) a h = absurd h
accepts_none c (Honour d) a h = absurd h
accepts_none c (LimitSending d n) a h = absurd h
accepts_none c (LimitReceiving d n) a h = absurd h
accepts_none c (Finish d) a h = absurd h
accepts_none c (Deliver n) a h = absurd h

neither_side : (b : Bool) (o : Option (List ℕ)) → o ≡ None → (if b then o else None) ≡ None
neither_side true o e = e
neither_side false o e = refl

accepted_none : (c : Channel) (s : Side) (later : History) → AllByRecursion (λ p. ComesOrTakes p.0.act) later → accepted c s later ≡ []
accepted_none c s [] h = refl
accepted_none c s (p ∷ later) h =
    ap (λ (o : Option (List ℕ)). cons_option o (accepted c s later)) (neither_side (is_side s p.0.side) (sent_body c p.0.act p.1) (accepts_none c p.0.act p.1 h.0)) ∙ accepted_none c s later h.1

accepted_same : (c : Channel) (s : Side) (history later : History) → AllByRecursion (λ p. ComesOrTakes p.0.act) later → accepted c s (history ++ later) ≡ accepted c s history
accepted_same c s [] later h = accepted_none c s later h
accepted_same c s (p ∷ history) later h = ap (λ (ms : List (List ℕ)). cons_option (at_side (sent_body c) s p) ms) (accepted_same c s history later h)

pub nothing_wedges : NothingWedges
nothing_wedges capacity versions history h =
    let w : State = state_of capacity versions history in
    let g : Good w = record { sound = sound_of capacity versions history h; small = omega (arith, h.is_capacity.at_most, capacity_stays (opening capacity versions) history) } in
    let way : Way (Dry every_place) w = drained w g in
    let later : History = way.later in
    let joined : History = history ++ later in
    let legal : IsHistory capacity versions joined = record { is_capacity = h.is_capacity; legal = legal_append (opening capacity versions) history later h.legal way.legal } in
    let end : Dry every_place (state_of capacity versions joined) = subst (λ (v : State). Dry every_place v) (sym (after_append (opening capacity versions) history later)) way.there in (
      later,
      record {
        only = way.only;
        legal = legal;
        all_taken = λ s c. taken_is_taken capacity versions joined legal s c ∙ (taken_put c (line (state_of capacity versions joined) s) (still_at (state_of capacity versions joined) end.still s) (at_place (state_of capacity versions joined) end.dry s c) ∙ sym (accepted_messages capacity versions joined s c));
        quiet = record { in_flight = still_at (state_of capacity versions joined) end.still };
        dry = at_place (state_of capacity versions joined) end.dry;
        none_added = λ s c. accepted_same c s history later way.only;
      },
    )
