-- The plead that a side keeps, over a history.
use Rattle.std.proofs.Common.{◌≡◌, ℕ, ◌<◌, Bool, true, false, List, [], ◌∷◌, ◌++◌, length, get_or, set, drop, Option, Some, None, refl, sym, ap, subst, ◌∙◌, inl, inr, arith}
use Rattle.std.specs.Prelude.{◌||◌, if◌then◌else◌}
use Rattle.std.specs.List.{filter_map, cons_option, last_or}
use Rattle.std.proofs.lemmas.Bool.Decides.{nat_tests}
use Rattle.std.proofs.lemmas.List.{append_assoc, append-nil, length-set, get_or-set_same, get_or-set_other}
use Rattle.std.proofs.Math.Seq.{drop-append_seam}
use Rattle.lc_frame.specs.declared.version.Version.{Version}
use Rattle.lc_frame.specs.declared.channel.Channel.{Channel}
use Rattle.lc_frame.specs.declared.channel.Channel.TheVariants.{Reconciliation, Data, Overlap, Capability, AreaOfInterest, PayloadRequest, StaticToken}
use Rattle.lc_frame.specs.declared.frame.Frame.{Frame}
use Rattle.lc_frame.specs.declared.frame.Frame.TheVariants as frame
use Rattle.lc_frame.specs.Channel.{channel_count, number_of, is_same}
use Rattle.lc_frame.specs.Stream.{target_of, pleads, finished}
use Rattle.lc_frame.proofs.Channels.{cases_same, same_is_same, number_below}
use Rattle.lc_frame.proofs.Measures.{pleads-append, finished-append}
use Rattle.lc_book.specs.Client.{kept}
use Rattle.lc_world.specs.declared.event.Side.{Side}
use Rattle.lc_world.specs.declared.event.Side.TheVariants.{A, B}
use Rattle.lc_world.specs.declared.event.Act.{Act}
use Rattle.lc_world.specs.declared.event.Act.TheVariants.{Honour, Arrive, Deliver, Take}
use Rattle.lc_world.specs.declared.event.Answer.{Answer}
use Rattle.lc_world.specs.declared.event.Answer.TheVariants.{Absolved, NothingToAbsolve, Arrived, Delivered, Took}
use Rattle.lc_world.specs.State.{State, Versions, opening, Line, new_line, line, other, stream, kept_plead, keep_pleads, arrive_on, deliver_on, forget_on, forget_finished}
use Rattle.lc_world.specs.Answers.{put_any, frame_put, theirs_after, state_after, after}
use Rattle.lc_world.proofs.Delivers.{deliver_keeps}
use Rattle.lc_world.proofs.Streams.{stream-step}
use Rattle.lc_world.proofs.Histories.{after_append}
use Rattle.lc_world.specs.Histories.{History, after_all, at_side, honoured_amount, honours}
use Rattle.lc_world.specs.Guarantee.{state_of, heard, plead_kept, last_plead, has_finished, IsHonoured, KeepsLastPlead}

-- frames come to arrive on a line, and its last plead is the last among them, or else as before
record Hears (c : Channel) (l new : Line) : Type 0 where
  came : List Frame
  arrived : new.arrived ≡ l.arrived ++ came
  last : kept_plead c new ≡ last_or (kept_plead c l) (pleads c came)

hears_none : (c : Channel) (l new : Line) → new.arrived ≡ l.arrived → kept_plead c new ≡ kept_plead c l → Hears c l new
hears_none c l new arrived last = record { came = []; arrived = arrived ∙ sym (append-nil l.arrived); last = last }

last_or-append : (o : Option ℕ) (xs ys : List ℕ) → last_or o (xs ++ ys) ≡ last_or (last_or o xs) ys
last_or-append o [] ys = refl
last_or-append o (x ∷ xs) ys = last_or-append (Some x) xs ys

hears_both : (c : Channel) (l m n : Line) → Hears c l m → Hears c m n → Hears c l n
hears_both c l m n x y =
    record {
      came = x.came ++ y.came;
      arrived = y.arrived ∙ (ap (λ (fs : List Frame). fs ++ y.came) x.arrived ∙ append_assoc l.arrived x.came y.came);
      last = y.last ∙ (ap (λ (o : Option ℕ). last_or o (pleads c y.came)) x.last ∙ (sym (last_or-append (kept_plead c l) (pleads c x.came) (pleads c y.came)) ∙ ap (λ (ts : List ℕ). last_or (kept_plead c l) ts) (sym (pleads-append c x.came y.came))));
    }

-- an arrival
no_target : (b : Bool) (f : Frame) → target_of f ≡ None → filter_map target_of (if b then f ∷ [] else []) ≡ []
no_target true f e = ap (λ (o : Option ℕ). cons_option o []) e
no_target false f e = refl

not_kept : (c : Channel) (o : Option ℕ) (b : Bool) (f : Frame) → target_of f ≡ None → o ≡ last_or o (filter_map target_of (if b then f ∷ [] else []))
not_kept c o b f e = ap (λ (ts : List ℕ). last_or o ts) (sym (no_target b f e))

abbrev KeptBy : Channel → Channel → ℕ → List (Option ℕ) → Bool → Type 0
KeptBy c d target asked b = get_or (set asked (number_of d) (Some target)) (number_of c) None ≡ last_or (get_or asked (number_of c) None) (filter_map target_of (if b then frame.Plead d target ∷ [] else []))

plead_here : (d : Channel) (target : ℕ) (asked : List (Option ℕ)) → number_of d < length asked → KeptBy d d target asked (is_same d d)
plead_here d target asked places = subst (λ (b : Bool). KeptBy d d target asked b) (sym (same_is_same d)) (get_or-set_same asked (number_of d) (Some target) None places)

plead_comes : (c d : Channel) (target : ℕ) (asked : List (Option ℕ)) → number_of c < length asked → KeptBy c d target asked (is_same c d)
plead_comes c d target asked places =
    elim (cases_same c d) [
      | inl same ↦ subst (λ (k : Channel). number_of k < length asked → KeptBy k d target asked (is_same k d)) (sym same) (plead_here d target asked) places
      | inr apart ↦ subst (λ (b : Bool). KeptBy c d target asked b) (sym apart) (get_or-set_other asked (number_of d) (number_of c) (Some target) None (grind (arith, nat_tests, apart)))
    ]

kept_one : (c : Channel) (f : Frame) (asked : List (Option ℕ)) → number_of c < length asked → get_or (keep_pleads f asked) (number_of c) None ≡ last_or (get_or asked (number_of c) None) (pleads c (f ∷ []))
kept_one c (frame.Plead d target) asked places = plead_comes c d target asked places
kept_one c (frame.Send d body) asked places = not_kept c _ (is_same c d) (frame.Send d body) refl
kept_one c (frame.Issue d n) asked places = not_kept c _ (is_same c d) (frame.Issue d n) refl
kept_one c (frame.Absolve d n) asked places = not_kept c _ (is_same c d) (frame.Absolve d n) refl
kept_one c (frame.LimitSending d n) asked places = not_kept c _ (is_same c d) (frame.LimitSending d n) refl
kept_one c (frame.LimitReceiving d n) asked places = not_kept c _ (is_same c d) (frame.LimitReceiving d n) refl
kept_one c (frame.Finish d) asked places = not_kept c _ (is_same c d) (frame.Finish d) refl

comes : (c : Channel) (version : Version) (left : ℕ) (arrived in_flight : List Frame) (begun : ℕ) (taken : List ℕ) (asked : List (Option ℕ)) → number_of c < length asked → Hears c (record { version = version; greeting_left = left; arrived = arrived; in_flight = in_flight; begun = begun; taken = taken; asked = asked }) (arrive_on (record { version = version; greeting_left = left; arrived = arrived; in_flight = in_flight; begun = begun; taken = taken; asked = asked }))
comes c version left arrived [] begun taken asked places = hears_none c _ _ refl refl
comes c version left arrived (f ∷ rest) begun taken asked places = record { came = f ∷ []; arrived = refl; last = kept_one c f asked places }

-- there is a place for each channel
pub places_come : (f : Frame) (asked : List (Option ℕ)) → length (keep_pleads f asked) ≡ length asked
places_come (frame.Plead d target) asked = length-set asked (number_of d) (Some target)
places_come f asked = refl

places_arrive : (version : Version) (left : ℕ) (arrived in_flight : List Frame) (begun : ℕ) (taken : List ℕ) (asked : List (Option ℕ)) → length (arrive_on (record { version = version; greeting_left = left; arrived = arrived; in_flight = in_flight; begun = begun; taken = taken; asked = asked })).asked ≡ length asked
places_arrive version left arrived [] begun taken asked = refl
places_arrive version left arrived (f ∷ rest) begun taken asked = places_come f asked

pub places_deliver : (count : ℕ) (l : Line) → length (deliver_on count l).asked ≡ length l.asked
places_deliver count l = deliver_keeps (λ (x : Line). length x.asked ≡ length l.asked) (record { begins = λ x m n e. e; arrives = λ x e. places_arrive x.version x.greeting_left x.arrived x.in_flight x.begun x.taken x.asked ∙ e }) count l refl

-- a delivery
record HearsInPlace (c : Channel) (l new : Line) : Type 0 where
  places : number_of c < length new.asked
  hears : Hears c l new

begins_to : (c : Channel) (l x : Line) (m n : ℕ) → Hears c l x → Hears c l (record x { greeting_left = m; begun = n })
begins_to c l x m n h = record { came = h.came; arrived = h.arrived; last = h.last }

delivers : (c : Channel) (count : ℕ) (l : Line) → number_of c < length l.asked → Hears c l (deliver_on count l)
delivers c count l places =
    (deliver_keeps (HearsInPlace c l) (record {
      begins = λ x m n h. record { places = h.places; hears = begins_to c l x m n h.hears };
      arrives = λ x h. record {
        places = omega (arith, h.places, places_arrive x.version x.greeting_left x.arrived x.in_flight x.begun x.taken x.asked);
        hears = hears_both c l x (arrive_on x) h.hears (comes c x.version x.greeting_left x.arrived x.in_flight x.begun x.taken x.asked h.places);
      };
    }) count l (record { places = places; hears = hears_none c l l refl refl })).hears

-- an honour on another channel
apart_from : (b : Bool) (n : ℕ) → (if b then Some n else None) ≡ None → b ≡ false
apart_from true n e = cc
apart_from false n e = refl

forgets_elsewhere : (c d : Channel) (l : Line) → is_same c d ≡ false → Hears c l (forget_on d l)
forgets_elsewhere c d l apart = hears_none c l (forget_on d l) refl (get_or-set_other l.asked (number_of d) (number_of c) None None (grind (arith, nat_tests, apart)))

-- an event at the side that reads the line, and one at the side that writes it
reader_hears : (mine l : Line) (act : Act) (a : Answer) (c : Channel) → honoured_amount c act a ≡ None → number_of c < length l.asked → Hears c l (theirs_after mine l act a)
reader_hears mine l Arrive Arrived c none places = comes c l.version l.greeting_left l.arrived l.in_flight l.begun l.taken l.asked places
reader_hears mine l (Deliver count) (Delivered bytes frames) c none places = delivers c count l places
reader_hears mine l (Take d) (Took body) c none places = hears_none c _ _ refl refl
reader_hears mine l (Honour d) (Absolved n) c none places = forgets_elsewhere c d l (apart_from (is_same c d) n none)
reader_hears mine l (Honour d) NothingToAbsolve c none places = forgets_elsewhere c d l (apart_from (is_same c d) 0 none)
reader_hears mine l act a c none places = hears_none c _ _ refl refl

writer_hears : (c : Channel) (l : Line) (o : Option Frame) → Hears c l (put_any l o)
writer_hears c l None = hears_none c _ _ refl refl
writer_hears c l (Some f) = hears_none c _ _ refl refl

-- a finished channel keeps no plead
pub kept_forgets : (mine theirs : Line) (c : Channel) → kept_plead c (forget_finished mine theirs) ≡ kept (finished c (stream mine)) (kept_plead c theirs)
kept_forgets mine theirs Reconciliation = refl
kept_forgets mine theirs Data = refl
kept_forgets mine theirs Overlap = refl
kept_forgets mine theirs Capability = refl
kept_forgets mine theirs AreaOfInterest = refl
kept_forgets mine theirs PayloadRequest = refl
kept_forgets mine theirs StaticToken = refl

keeps_none : (d : Bool) → kept d None ≡ None
keeps_none true = refl
keeps_none false = refl

-- frames come to arrive at a side, a channel that it finished stays so, and of the pleads the last is kept where it is not
record Keeps (s : Side) (c : Channel) (w new : State) : Type 0 where
  came : List Frame
  arrived : heard s new ≡ heard s w ++ came
  stays : has_finished s c w ≡ true → has_finished s c new ≡ true
  last : plead_kept s c new ≡ kept (has_finished s c new) (last_or (plead_kept s c w) (pleads c came))

-- what was forgotten on the way is forgotten at its end
kept_twice : (d e : Bool) (o : Option ℕ) (ts : List ℕ) → (d ≡ true → e ≡ true) → kept e (last_or (kept d o) ts) ≡ kept e (last_or o ts)
kept_twice false e o ts stays = refl
kept_twice true true o ts stays = refl
kept_twice true false o ts stays = let no : false ≡ true = stays refl in cc

keeps_both : (s : Side) (c : Channel) (w v new : State) → Keeps s c w v → Keeps s c v new → Keeps s c w new
keeps_both s c w v new x y =
    let last : Option ℕ = last_or (plead_kept s c w) (pleads c x.came) in
    record {
      came = x.came ++ y.came;
      arrived = y.arrived ∙ (ap (λ (fs : List Frame). fs ++ y.came) x.arrived ∙ append_assoc (heard s w) x.came y.came);
      stays = λ e. y.stays (x.stays e);
      last = y.last
          ∙ (ap (λ (o : Option ℕ). kept (has_finished s c new) (last_or o (pleads c y.came))) x.last
          ∙ (kept_twice (has_finished s c v) (has_finished s c new) last (pleads c y.came) y.stays
          ∙ ap (λ (o : Option ℕ). kept (has_finished s c new) o) (sym (last_or-append (plead_kept s c w) (pleads c x.came) (pleads c y.came)) ∙ ap (λ (ts : List ℕ). last_or (plead_kept s c w) ts) (sym (pleads-append c x.came y.came)))));
    }

pub stays_finished : (c : Channel) (frames more all : List Frame) → all ≡ frames ++ more → finished c frames ≡ true → finished c all ≡ true
stays_finished c frames more all same e = ap (finished c) same ∙ (finished-append c frames more ∙ ap (λ (b : Bool). b || finished c more) e)

finish_stays : (w : State) (side : Side) (act : Act) (a : Answer) (s : Side) (c : Channel) → has_finished s c w ≡ true → has_finished s c (state_after w side act a) ≡ true
finish_stays w side act a s c e = stays_finished c (stream (line w s)) _ _ (stream-step w side act a s) e

-- an event at the side, and one at the other
settled_last : (c : Channel) (mine l new : Line) (h : Hears c l new) → kept_plead c (forget_finished mine new) ≡ kept (finished c (stream mine)) (last_or (kept_plead c l) (pleads c h.came))
settled_last c mine l new h = kept_forgets mine new c ∙ ap (λ (o : Option ℕ). kept (finished c (stream mine)) o) h.last

keeps_step : (w : State) (side : Side) (act : Act) (a : Answer) (s : Side) (c : Channel) → at_side (honoured_amount c) s (record { side = side; act = act }, a) ≡ None → number_of c < length (line w (other s)).asked → Keeps s c w (state_after w side act a)
keeps_step w A act a A c none places =
    let h : Hears c w.b (theirs_after w.a w.b act a) = reader_hears w.a w.b act a c none places in
    record { came = h.came; arrived = h.arrived; stays = finish_stays w A act a A c; last = settled_last c (put_any w.a (frame_put act a)) w.b (theirs_after w.a w.b act a) h }
keeps_step w A act a B c none places =
    let h : Hears c w.a (put_any w.a (frame_put act a)) = writer_hears c w.a (frame_put act a) in
    record { came = h.came; arrived = h.arrived; stays = finish_stays w A act a B c; last = settled_last c (theirs_after w.a w.b act a) w.a (put_any w.a (frame_put act a)) h }
keeps_step w B act a A c none places =
    let h : Hears c w.b (put_any w.b (frame_put act a)) = writer_hears c w.b (frame_put act a) in
    record { came = h.came; arrived = h.arrived; stays = finish_stays w B act a A c; last = settled_last c (theirs_after w.b w.a act a) w.b (put_any w.b (frame_put act a)) h }
keeps_step w B act a B c none places =
    let h : Hears c w.a (theirs_after w.b w.a act a) = reader_hears w.b w.a act a c none places in
    record { came = h.came; arrived = h.arrived; stays = finish_stays w B act a B c; last = settled_last c (put_any w.b (frame_put act a)) w.a (theirs_after w.b w.a act a) h }

-- every event leaves a place for each channel
places_step : (w : State) (side : Side) (act : Act) (a : Answer) (s : Side) → length (line (state_after w side act a) s).asked ≡ channel_count
places_step w A act a A = refl
places_step w A act a B = refl
places_step w B act a A = refl
places_step w B act a B = refl

places_all : (w : State) (history : History) (s : Side) → length (line w s).asked ≡ channel_count → length (line (after_all w history) s).asked ≡ channel_count
places_all w [] s e = e
places_all w (p ∷ history) s e = places_all (after w p.0 p.1) history s (places_step w p.0.side p.0.act p.1 s)

has_place : (c : Channel) (l : Line) → length l.asked ≡ channel_count → number_of c < length l.asked
has_place c l e = omega (arith, e, number_below c)

-- part of a history without an honour that was answered
none_first : (o : Option ℕ) (ns : List ℕ) → cons_option o ns ≡ [] → (o ≡ None) × (ns ≡ [])
none_first None ns e = (refl, e)
none_first (Some n) ns e = cc

-- what was forgotten stays so where nothing comes
keeps_still : (s : Side) (c : Channel) (w : State) → plead_kept s c w ≡ kept (has_finished s c w) (plead_kept s c w) → Keeps s c w w
keeps_still s c w e = record { came = []; arrived = sym (append-nil (heard s w)); stays = λ f. f; last = e }

kept_again : (d : Bool) (o x : Option ℕ) → o ≡ kept d x → o ≡ kept d o
kept_again true o x e = e
kept_again false o x e = refl

keeps_all : (w : State) (history : History) (s : Side) (c : Channel) → honours c s history ≡ [] → length (line w (other s)).asked ≡ channel_count → plead_kept s c w ≡ kept (has_finished s c w) (plead_kept s c w) → Keeps s c w (after_all w history)
keeps_all w [] s c none places e = keeps_still s c w e
keeps_all w (p ∷ history) s c none places e =
    let nones = none_first (at_side (honoured_amount c) s p) (honours c s history) none in
    let next : State = after w p.0 p.1 in
    let one : Keeps s c w next = keeps_step w p.0.side p.0.act p.1 s c nones.0 (has_place c (line w (other s)) places) in
    keeps_both s c w next (after_all next history) one (keeps_all next history s c nones.1 (places_step w p.0.side p.0.act p.1 (other s)) (kept_again (has_finished s c next) (plead_kept s c next) _ one.last))

-- at the opening no plead is kept
opening_places : (capacity : ℕ) (versions : Versions) (s : Side) → length (line (opening capacity versions) s).asked ≡ channel_count
opening_places capacity versions A = refl
opening_places capacity versions B = refl

pub none_kept : (v : Version) (c : Channel) → kept_plead c (new_line v) ≡ None
none_kept v Reconciliation = refl
none_kept v Data = refl
none_kept v Overlap = refl
none_kept v Capability = refl
none_kept v AreaOfInterest = refl
none_kept v PayloadRequest = refl
none_kept v StaticToken = refl

opening_kept : (capacity : ℕ) (versions : Versions) (s : Side) (c : Channel) → plead_kept s c (opening capacity versions) ≡ None
opening_kept capacity versions A c = none_kept (versions B) c
opening_kept capacity versions B c = none_kept (versions A) c

opening_heard : (capacity : ℕ) (versions : Versions) (s : Side) → heard s (opening capacity versions) ≡ []
opening_heard capacity versions A = refl
opening_heard capacity versions B = refl

-- where no plead was kept, the one that is kept is the last of those that came
kept_last : (s : Side) (c : Channel) (w new : State) → plead_kept s c w ≡ None → Keeps s c w new → plead_kept s c new ≡ kept (has_finished s c new) (last_plead c (drop (length (heard s w)) (heard s new)))
kept_last s c w new none h =
    h.last
    ∙ ap (λ (o : Option ℕ). kept (has_finished s c new) o)
    (ap (λ (o : Option ℕ). last_or o (pleads c h.came)) none
    ∙ ap (λ (fs : List Frame). last_plead c fs) (sym (ap (λ (fs : List Frame). drop (length (heard s w)) fs) h.arrived ∙ drop-append_seam (heard s w) h.came)))

-- and so it is over a whole history from there on
last_since : (w : State) (history : History) (s : Side) (c : Channel) → honours c s history ≡ [] → length (line w (other s)).asked ≡ channel_count → plead_kept s c w ≡ None → plead_kept s c (after_all w history) ≡ kept (has_finished s c (after_all w history)) (last_plead c (drop (length (heard s w)) (heard s (after_all w history))))
last_since w history s c none places e =
    let forgotten : plead_kept s c w ≡ kept (has_finished s c w) (plead_kept s c w) = kept_again (has_finished s c w) (plead_kept s c w) None (e ∙ sym (keeps_none (has_finished s c w))) in
    kept_last s c w (after_all w history) e (keeps_all w history s c none places forgotten)

-- an honour that was answered forgets the plead and hears nothing
abbrev Forgot : Side → Channel → State → State → Type 0
Forgot s c w new = (plead_kept s c new ≡ None) × (heard s new ≡ heard s w)

forgot : (c : Channel) (l : Line) → number_of c < length l.asked → kept_plead c (forget_on c l) ≡ None
forgot c l places = get_or-set_same l.asked (number_of c) None None places

line_forgets : (mine l : Line) (c : Channel) (a : Answer) → IsHonoured a → number_of c < length l.asked → (kept_plead c (theirs_after mine l (Honour c) a) ≡ None) × ((theirs_after mine l (Honour c) a).arrived ≡ l.arrived)
line_forgets mine l c (Absolved n) h places = (forgot c l places, refl)
line_forgets mine l c NothingToAbsolve h places = (forgot c l places, refl)
line_forgets mine l c a h places = absurd h

stays_forgotten : (mine theirs : Line) (c : Channel) → kept_plead c theirs ≡ None → kept_plead c (forget_finished mine theirs) ≡ None
stays_forgotten mine theirs c e = kept_forgets mine theirs c ∙ (ap (λ (o : Option ℕ). kept (finished c (stream mine)) o) e ∙ keeps_none (finished c (stream mine)))

honour_forgets : (w : State) (s : Side) (c : Channel) (a : Answer) → IsHonoured a → number_of c < length (line w (other s)).asked → Forgot s c w (state_after w s (Honour c) a)
honour_forgets w A c a h places =
    let l = line_forgets w.a w.b c a h places in
    (stays_forgotten (put_any w.a (frame_put (Honour c) a)) (theirs_after w.a w.b (Honour c) a) c l.0, l.1)
honour_forgets w B c a h places =
    let l = line_forgets w.b w.a c a h places in
    (stays_forgotten (put_any w.b (frame_put (Honour c) a)) (theirs_after w.b w.a (Honour c) a) c l.0, l.1)

abbrev NeverHonoured : Side → Channel → State → Type 0
NeverHonoured s c end = plead_kept s c end ≡ kept (has_finished s c end) (last_plead c (heard s end))

never : (capacity : ℕ) (versions : Versions) (history : History) (s : Side) (c : Channel) → honours c s history ≡ [] → NeverHonoured s c (state_of capacity versions history)
never capacity versions history s c none =
    let w : State = opening capacity versions in
    let end : State = state_of capacity versions history in
    last_since w history s c none (opening_places capacity versions (other s)) (opening_kept capacity versions s c)
    ∙ ap (λ (fs : List Frame). kept (has_finished s c end) (last_plead c (drop (length fs) (heard s end)))) (opening_heard capacity versions s)

abbrev SinceHonour : ℕ → Versions → Side → Channel → History → State → Type 0
SinceHonour capacity versions s c earlier end = plead_kept s c end ≡ kept (has_finished s c end) (last_plead c (drop (length (heard s (state_of capacity versions earlier))) (heard s end)))

since : (capacity : ℕ) (versions : Versions) (s : Side) (c : Channel) (earlier later : History) (a : Answer) → IsHonoured a → honours c s later ≡ [] → SinceHonour capacity versions s c earlier (after_all (state_after (state_of capacity versions earlier) s (Honour c) a) later)
since capacity versions s c earlier later a honoured none =
    let w : State = state_of capacity versions earlier in
    let next : State = state_after w s (Honour c) a in
    let end : State = after_all next later in
    let places : length (line w (other s)).asked ≡ channel_count = places_all (opening capacity versions) earlier (other s) (opening_places capacity versions (other s)) in
    let f = honour_forgets w s c a honoured (has_place c (line w (other s)) places) in
    last_since next later s c none (places_step w s (Honour c) a (other s)) f.0
    ∙ ap (λ (fs : List Frame). kept (has_finished s c end) (last_plead c (drop (length fs) (heard s end)))) f.1

cut : (capacity : ℕ) (versions : Versions) (history : History) (s : Side) (c : Channel) (earlier later : History) (a : Answer) → history ≡ earlier ++ (record { side = s; act = Honour c }, a) ∷ later → state_of capacity versions history ≡ after_all (state_after (state_of capacity versions earlier) s (Honour c) a) later
cut capacity versions history s c earlier later a e = ap (λ (h : History). state_of capacity versions h) e ∙ after_append (opening capacity versions) earlier _

pub keeps_last_plead : (capacity : ℕ) (versions : Versions) (history : History) (s : Side) (c : Channel) → KeepsLastPlead capacity versions history s c
keeps_last_plead capacity versions history s c =
    record {
      never_honoured = never capacity versions history s c;
      since_honour = λ earlier later at none. subst (λ (w : State). SinceHonour capacity versions s c earlier w) (sym (cut capacity versions history s c earlier later at.0 at.2)) (since capacity versions s c earlier later at.0 at.1 none);
    }
