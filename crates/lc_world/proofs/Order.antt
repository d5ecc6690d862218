-- The messages that a history takes are the front of those that it accepts.
use Rattle.std.proofs.Common.{◌≡◌, ℕ, zero, suc, ◌<◌, ◌≤◌, Bool, List, [], ◌∷◌, ◌++◌, length, get_or, take, Option, Some, None, refl, sym, ap, subst, ◌∙◌, inl, inr}
use Rattle.std.specs.Prelude.{if◌then◌else◌}
use Rattle.std.specs.List.{cons_option}
use Rattle.std.proofs.lemmas.List.{append_assoc, append-nil, take-append-drop}
use Rattle.lc_frame.specs.declared.version.Version.{Version}
use Rattle.lc_frame.specs.declared.channel.Channel.{Channel}
use Rattle.lc_frame.specs.declared.frame.Frame.{Frame}
use Rattle.lc_frame.specs.Channel.{number_of, is_same}
use Rattle.lc_frame.specs.Stream.{messages}
use Rattle.lc_frame.proofs.Channels.{cases_same, same_is_same}
use Rattle.lc_frame.proofs.Measures.{messages-append}
use Rattle.lc_book.specs.Server.{Server}
use Rattle.lc_world.specs.declared.event.Side.{Side}
use Rattle.lc_world.specs.declared.event.Side.TheVariants.{A, B}
use Rattle.lc_world.specs.declared.event.Act.{Act}
use Rattle.lc_world.specs.declared.event.Act.TheVariants.{Honour, Arrive, Deliver, Take}
use Rattle.lc_world.specs.declared.event.Answer.{Answer}
use Rattle.lc_world.specs.declared.event.Answer.TheVariants.{Absolved, NothingToAbsolve, Arrived, Delivered, Took}
use Rattle.lc_world.specs.State.{State, Versions, opening, Line, line, other, stream, taken_count, taken_messages, server_book, arrive_on, deliver_on, take_on}
use Rattle.lc_world.specs.Answers.{put_any, frame_put, take_answer, waiting, IsAnswerOf, IsAnswer, theirs_after, state_after, after}
use Rattle.lc_world.specs.Histories.{History, after_all, IsLegal, IsHistory, at_side, taken_body, accepted, taken}
use Rattle.lc_world.specs.Guarantee.{state_of, IsPrefix}
use Rattle.lc_world.specs.Sound.{Sound, IsSound}
use Rattle.lc_world.proofs.Allowed.{told}
use Rattle.lc_world.proofs.Streams.{puts, stream-all, accepted_are}
use Rattle.lc_world.proofs.Messages.{first_waiting}
use Rattle.lc_world.proofs.Delivers.{deliver_keeps}
use Rattle.lc_world.proofs.Sound.{taken-push, count-here, count-elsewhere, sound_comes}
use Rattle.lc_world.proofs.Steps.{took_waiting, sound_step, sound_opened}

-- the stream of one side after a history is what the history put there
pub stream-history : (capacity : ℕ) (versions : Versions) (history : History) (s : Side) → stream (line (state_of capacity versions history) s) ≡ puts s history
stream-history capacity versions history A = stream-all (opening capacity versions) history A
stream-history capacity versions history B = stream-all (opening capacity versions) history B

pub accepted_messages : (capacity : ℕ) (versions : Versions) (history : History) (s : Side) (c : Channel) → accepted c s history ≡ messages c (stream (line (state_of capacity versions history) s))
accepted_messages capacity versions history s c = accepted_are c s history ∙ ap (messages c) (sym (stream-history capacity versions history s))

-- a frame that is put leaves what was taken, and one that arrives too
taken-put : (c : Channel) (l : Line) (o : Option Frame) → taken_messages c (put_any l o) ≡ taken_messages c l
taken-put c l None = refl
taken-put c l (Some f) = refl

taken-comes : (c : Channel) (version : Version) (left : ℕ) (arrived in_flight : List Frame) (begun : ℕ) (taken : List ℕ) (asked : List (Option ℕ)) → get_or taken (number_of c) 0 ≤ length (messages c arrived) → taken_messages c (arrive_on (record { version = version; greeting_left = left; arrived = arrived; in_flight = in_flight; begun = begun; taken = taken; asked = asked })) ≡ take (get_or taken (number_of c) 0) (messages c arrived)
taken-comes c version left arrived [] begun taken asked le = refl
taken-comes c version left arrived (f ∷ rest) begun taken asked le = taken-push c arrived f (get_or taken (number_of c) 0) le

taken-arrive : (c : Channel) (l : Line) → taken_count c l ≤ length (messages c l.arrived) → taken_messages c (arrive_on l) ≡ taken_messages c l
taken-arrive c l le = taken-comes c l.version l.greeting_left l.arrived l.in_flight l.begun l.taken l.asked le

-- and so do all that a delivery brings
record LeavesTaken (capacity : ℕ) (c : Channel) (mine l new : Line) : Type 0 where
  sound : Sound capacity c new mine
  same : taken_messages c new ≡ taken_messages c l

taken-deliver : (capacity : ℕ) (c : Channel) (count : ℕ) (mine l : Line) → Sound capacity c l mine → taken_messages c (deliver_on count l) ≡ taken_messages c l
taken-deliver capacity c count mine l s =
    (deliver_keeps (LeavesTaken capacity c mine l) (record {
      begins = λ x m n h. record { sound = record { solvent = h.sound.solvent; roomy = h.sound.roomy; total = h.sound.total; taken_of_arrived = h.sound.taken_of_arrived; places = h.sound.places }; same = h.same };
      arrives = λ x h. record { sound = sound_comes capacity c x mine h.sound; same = taken-arrive c x h.sound.taken_of_arrived ∙ h.same };
    }) count l (record { sound = s; same = refl })).same

-- a take adds the first message that waits
taken_one : (book : Server) (d : Channel) (l : Line) (body : List ℕ) → number_of d < length l.taken → Took body ≡ take_answer book (waiting d l) → taken_messages d (take_on d l) ≡ taken_messages d l ++ body ∷ []
taken_one book d l body places e =
    let w = took_waiting book (waiting d l) body e in
    ap (λ (t : ℕ). take t (messages d l.arrived)) (count-here d l places)
    ∙ first_waiting (messages d l.arrived) (taken_count d l) body w.0 w.1

-- the taken messages, before others
abbrev Adds : Channel → Line → Line → Option (List ℕ) → Type 0
Adds c l new o = (ys : List (List ℕ)) → taken_messages c new ++ ys ≡ taken_messages c l ++ cons_option o ys

adds_none : (c : Channel) (l new : Line) → taken_messages c new ≡ taken_messages c l → Adds c l new None
adds_none c l new e ys = ap (λ (ms : List (List ℕ)). ms ++ ys) e

adds_one : (c : Channel) (l new : Line) (body : List ℕ) → taken_messages c new ≡ taken_messages c l ++ body ∷ [] → Adds c l new (Some body)
adds_one c l new body e ys = ap (λ (ms : List (List ℕ)). ms ++ ys) e ∙ append_assoc (taken_messages c l) (body ∷ []) ys

take_adds : (book : Server) (c d : Channel) (l : Line) (body : List ℕ) → number_of d < length l.taken → Took body ≡ take_answer book (waiting d l) → Adds c l (take_on d l) (if is_same c d then Some body else None)
take_adds book c d l body places e =
    elim (cases_same c d) [
      | inl same ↦ subst (λ (k : Channel). Adds k l (take_on d l) (if is_same k d then Some body else None)) (sym same) (subst (λ (b : Bool). Adds d l (take_on d l) (if b then Some body else None)) (sym (same_is_same d)) (adds_one d l (take_on d l) body (taken_one book d l body places e)))
      | inr apart ↦ subst (λ (b : Bool). Adds c l (take_on d l) (if b then Some body else None)) (sym apart) (adds_none c l (take_on d l) (ap (λ (t : ℕ). take t (messages c l.arrived)) (count-elsewhere c d l apart)))
    ]

-- what an event takes of the other side's messages
theirs_adds : (capacity : ℕ) (mine l : Line) (act : Act) (a : Answer) (c : Channel) → IsAnswerOf capacity mine l act a → ((d : Channel) → Sound capacity d l mine) → Adds c l (theirs_after mine l act a) (taken_body c act a)
theirs_adds capacity mine l Arrive Arrived c h g = adds_none c l (arrive_on l) (taken-arrive c l (g c).taken_of_arrived)
theirs_adds capacity mine l (Deliver count) (Delivered bytes frames) c h g = adds_none c l (deliver_on count l) (taken-deliver capacity c count mine l (g c))
theirs_adds capacity mine l (Take d) (Took body) c h g = take_adds (server_book capacity d mine l) c d l body (g d).places (told _ _ _ h (λ e. cc))
theirs_adds capacity mine l (Honour d) (Absolved n) c h g = λ ys. refl
theirs_adds capacity mine l (Honour d) NothingToAbsolve c h g = λ ys. refl
theirs_adds capacity mine l act a c h g = λ ys. refl

taken_step : (w : State) (side : Side) (act : Act) (a : Answer) (s : Side) (c : Channel) → IsAnswer w (record { side = side; act = act }) a → IsSound w → Adds c (line w s) (line (state_after w side act a) s) (at_side (taken_body c) (other s) (record { side = side; act = act }, a))
taken_step w A act a A c h g = adds_none c w.a (put_any w.a (frame_put act a)) (taken-put c w.a (frame_put act a))
taken_step w A act a B c h g = theirs_adds w.capacity w.a w.b act a c h (g.sums B)
taken_step w B act a A c h g = theirs_adds w.capacity w.b w.a act a c h (g.sums A)
taken_step w B act a B c h g = adds_none c w.b (put_any w.b (frame_put act a)) (taken-put c w.b (frame_put act a))

taken_all : (w : State) (history : History) (s : Side) (c : Channel) → IsLegal w history → IsSound w → taken_messages c (line (after_all w history) s) ≡ taken_messages c (line w s) ++ taken c (other s) history
taken_all w [] s c h g = sym (append-nil (taken_messages c (line w s)))
taken_all w (p ∷ history) s c h g =
    taken_all (after w p.0 p.1) history s c h.1 (sound_step w p.0.side p.0.act p.1 h.0 g)
    ∙ taken_step w p.0.side p.0.act p.1 s c h.0 g (taken c (other s) history)

-- nothing was taken of nothing
take-nil : (n : ℕ) → take {A = List ℕ} n [] ≡ []
take-nil zero = refl
take-nil (suc n) = refl

opening_taken : (capacity : ℕ) (versions : Versions) (s : Side) (c : Channel) → taken_messages c (line (opening capacity versions) s) ≡ []
opening_taken capacity versions A c = take-nil _
opening_taken capacity versions B c = take-nil _

pub taken_is_taken : (capacity : ℕ) (versions : Versions) (history : History) → IsHistory capacity versions history → (s : Side) (c : Channel) → taken c (other s) history ≡ taken_messages c (line (state_of capacity versions history) s)
taken_is_taken capacity versions history h s c =
    sym (taken_all (opening capacity versions) history s c h.legal (sound_opened capacity versions) ∙ ap (λ (ms : List (List ℕ)). ms ++ taken c (other s) history) (opening_taken capacity versions s c))

-- what was taken is the front of what was put
taken_front : (c : Channel) (l : Line) → taken_messages c l ++ (waiting c l ++ messages c l.in_flight) ≡ messages c (stream l)
taken_front c l =
    sym (append_assoc (taken_messages c l) (waiting c l) (messages c l.in_flight))
    ∙ (ap (λ (ms : List (List ℕ)). ms ++ messages c l.in_flight) (take-append-drop (taken_count c l) (messages c l.arrived)) ∙ sym (messages-append c l.arrived l.in_flight))

pub takes_in_order : (capacity : ℕ) (versions : Versions) (history : History) → IsHistory capacity versions history → (s : Side) (c : Channel) → IsPrefix (taken c (other s) history) (accepted c s history)
takes_in_order capacity versions history h s c =
    let end : Line = line (state_of capacity versions history) s in
    let rest : List (List ℕ) = waiting c end ++ messages c end.in_flight in
    (rest, ap (λ (ms : List (List ℕ)). ms ++ rest) (taken_is_taken capacity versions history h s c) ∙ (taken_front c end ∙ sym (accepted_messages capacity versions history s c)))
