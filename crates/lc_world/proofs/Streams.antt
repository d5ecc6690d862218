-- What an event does to the streams, and the streams of a history.
use Rattle.std.proofs.Common.{◌≡◌, ℕ, Bool, true, false, List, [], ◌∷◌, ◌++◌, Option, Some, None, refl, sym, ap, ◌∙◌}
use Rattle.std.specs.Prelude.{if◌then◌else◌}
use Rattle.std.specs.List.{filter_map, cons_option}
use Rattle.std.proofs.lemmas.List.{append-nil, append_assoc}
use Rattle.lc_frame.specs.declared.version.Version.{Version}
use Rattle.lc_frame.specs.declared.channel.Channel.{Channel}
use Rattle.lc_frame.specs.declared.frame.Frame.{Frame}
use Rattle.lc_frame.specs.declared.frame.Frame.TheVariants as frame
use Rattle.lc_frame.specs.Channel.{is_same}
use Rattle.lc_frame.specs.Stream.{on, message_of, issue_of, messages}
use Rattle.lc_world.specs.declared.event.Side.{Side}
use Rattle.lc_world.specs.declared.event.Side.TheVariants.{A, B}
use Rattle.lc_world.specs.declared.event.Act.{Act}
use Rattle.lc_world.specs.declared.event.Act.TheVariants.{Send, Issue, Plead, Absolve, Honour, LimitSending, LimitReceiving, Finish, Arrive, Deliver, Take}
use Rattle.lc_world.specs.declared.event.Answer.{Answer}
use Rattle.lc_world.specs.declared.event.Answer.TheVariants.{Accepted, Absolved, NothingToAbsolve, Arrived, Delivered, Took}
use Rattle.lc_world.specs.State.{State, Versions, opening, Line, line, stream, put_on, arrive_first, arrive_on, deliver_on}
use Rattle.lc_world.specs.Answers.{frame_put, put_any, theirs_after, state_after, after}
use Rattle.lc_world.specs.Guarantee.{state_of}
use Rattle.lc_world.proofs.Delivers.{deliver_keeps}
use Rattle.lc_world.specs.Histories.{History, after_all, is_side, at_side, sent_body, issued_amount, accepted, amounts}

-- a frame that is put is the stream's last
pub stream-put : (l : Line) (f : Frame) → stream (put_on l f) ≡ stream l ++ f ∷ []
stream-put l f = sym (append_assoc l.arrived l.in_flight (f ∷ []))

pub stream-put_any : (l : Line) (o : Option Frame) → stream (put_any l o) ≡ stream l ++ cons_option o []
stream-put_any l None = sym (append-nil (stream l))
stream-put_any l (Some f) = stream-put l f

-- an arrival moves the cut of a stream
stream-arrive_first : (version : Version) (left : ℕ) (arrived in_flight : List Frame) (begun : ℕ) (taken : List ℕ) (asked : List (Option ℕ)) → stream (arrive_on (record { version = version; greeting_left = left; arrived = arrived; in_flight = in_flight; begun = begun; taken = taken; asked = asked })) ≡ arrived ++ in_flight
stream-arrive_first version left arrived [] begun taken asked = refl
stream-arrive_first version left arrived (f ∷ rest) begun taken asked = append_assoc arrived (f ∷ []) rest

pub stream-arrive : (l : Line) → stream (arrive_on l) ≡ stream l
stream-arrive l = stream-arrive_first l.version l.greeting_left l.arrived l.in_flight l.begun l.taken l.asked

pub stream-deliver : (count : ℕ) (l : Line) → stream (deliver_on count l) ≡ stream l
stream-deliver count l = deliver_keeps (λ (x : Line). stream x ≡ stream l) (record { begins = λ x m n e. e; arrives = λ x e. stream-arrive x ∙ e }) count l refl

-- no stream changes its version
version-first : (frames : List Frame) (l : Line) → (arrive_first l frames).version ≡ l.version
version-first [] l = refl
version-first (f ∷ rest) l = refl

pub version-deliver : (count : ℕ) (l : Line) → (deliver_on count l).version ≡ l.version
version-deliver count l = deliver_keeps (λ (x : Line). x.version ≡ l.version) (record { begins = λ x m n e. e; arrives = λ x e. version-first x.in_flight x ∙ e }) count l refl

version-mine : (l : Line) (o : Option Frame) → (put_any l o).version ≡ l.version
version-mine l None = refl
version-mine l (Some f) = refl

version-theirs : (mine theirs : Line) (act : Act) (a : Answer) → (theirs_after mine theirs act a).version ≡ theirs.version
version-theirs mine theirs Arrive Arrived = version-first theirs.in_flight theirs
version-theirs mine theirs (Deliver count) (Delivered bytes frames) = version-deliver count theirs
version-theirs mine theirs (Take c) (Took body) = refl
version-theirs mine theirs (Honour c) (Absolved amount) = refl
version-theirs mine theirs (Honour c) NothingToAbsolve = refl
version-theirs mine theirs act a = refl

version-step : (w : State) (side : Side) (act : Act) (a : Answer) (s : Side) → (line (state_after w side act a) s).version ≡ (line w s).version
version-step w A act a A = version-mine w.a (frame_put act a)
version-step w A act a B = version-theirs w.a w.b act a
version-step w B act a A = version-theirs w.b w.a act a
version-step w B act a B = version-mine w.b (frame_put act a)

version-all : (w : State) (history : History) (s : Side) → (line (after_all w history) s).version ≡ (line w s).version
version-all w [] s = refl
version-all w (p ∷ history) s = version-all (after w p.0 p.1) history s ∙ version-step w p.0.side p.0.act p.1 s

pub version_kept : (capacity : ℕ) (versions : Versions) (history : History) (s : Side) → (line (state_of capacity versions history) s).version ≡ versions s
version_kept capacity versions history A = version-all (opening capacity versions) history A
version_kept capacity versions history B = version-all (opening capacity versions) history B

-- an event leaves the other side's stream as it was
pub stream-theirs : (mine theirs : Line) (act : Act) (a : Answer) → stream (theirs_after mine theirs act a) ≡ stream theirs
stream-theirs mine theirs Arrive Arrived = stream-arrive theirs
stream-theirs mine theirs (Deliver count) (Delivered bytes frames) = stream-deliver count theirs
stream-theirs mine theirs (Take c) (Took body) = refl
stream-theirs mine theirs (Honour c) (Absolved amount) = refl
stream-theirs mine theirs (Honour c) NothingToAbsolve = refl
stream-theirs mine theirs act a = refl

-- the frames that a history puts on the stream of one side
abbrev pub puts : Side → History → List Frame
puts s history = filter_map (at_side frame_put s) history

pub stream-step : (w : State) (side : Side) (act : Act) (a : Answer) (s : Side) → stream (line (state_after w side act a) s) ≡ stream (line w s) ++ cons_option (at_side frame_put s (record { side = side; act = act }, a)) []
stream-step w A act a A = stream-put_any w.a (frame_put act a)
stream-step w A act a B = stream-theirs w.a w.b act a ∙ sym (append-nil (stream w.b))
stream-step w B act a A = stream-theirs w.b w.a act a ∙ sym (append-nil (stream w.a))
stream-step w B act a B = stream-put_any w.b (frame_put act a)

append_option : (xs ys : List Frame) (o : Option Frame) → (xs ++ cons_option o []) ++ ys ≡ xs ++ cons_option o ys
append_option xs ys None = ap (λ (zs : List Frame). zs ++ ys) (append-nil xs)
append_option xs ys (Some f) = append_assoc xs (f ∷ []) ys

pub stream-all : (w : State) (history : History) (s : Side) → stream (line (after_all w history) s) ≡ stream (line w s) ++ puts s history
stream-all w [] s = sym (append-nil (stream (line w s)))
stream-all w (p ∷ history) s =
    stream-all (after w p.0 p.1) history s
    ∙ (ap (λ (fs : List Frame). fs ++ puts s history) (stream-step w p.0.side p.0.act p.1 s)
    ∙ append_option (stream (line w s)) (puts s history) (at_side frame_put s p))

-- what a filter of one frame more keeps, if that frame carries something of the kind and if it carries nothing
keeps_one : {X : Type 0} (of_frame : Frame → Option X) (b : Bool) (f : Frame) (fs : List Frame) → cons_option (if b then of_frame f else None) (filter_map of_frame fs) ≡ filter_map of_frame (if b then f ∷ fs else fs)
keeps_one of_frame true f fs = refl
keeps_one of_frame false f fs = refl

keeps_none : {X : Type 0} (of_frame : Frame → Option X) (b : Bool) (f : Frame) (fs : List Frame) → of_frame f ≡ None → filter_map of_frame fs ≡ filter_map of_frame (if b then f ∷ fs else fs)
keeps_none of_frame true f fs e = sym (ap (λ o. cons_option o (filter_map of_frame fs)) e)
keeps_none of_frame false f fs e = refl

-- the messages that are accepted are those of the frames that are put
message_accepted : (c : Channel) (fs : List Frame) (act : Act) (a : Answer) → cons_option (sent_body c act a) (messages c fs) ≡ messages c (cons_option (frame_put act a) fs)
message_accepted c fs (Send d body) Accepted = keeps_one message_of (is_same c d) (frame.Send d body) (on c fs)
message_accepted c fs (Issue d n) Accepted = keeps_none message_of (is_same c d) (frame.Issue d n) (on c fs) refl
message_accepted c fs (Plead d n) Accepted = keeps_none message_of (is_same c d) (frame.Plead d n) (on c fs) refl
message_accepted c fs (Absolve d n) Accepted = keeps_none message_of (is_same c d) (frame.Absolve d n) (on c fs) refl
message_accepted c fs (Honour d) (Absolved n) = keeps_none message_of (is_same c d) (frame.Absolve d n) (on c fs) refl
message_accepted c fs (LimitSending d n) Accepted = keeps_none message_of (is_same c d) (frame.LimitSending d n) (on c fs) refl
message_accepted c fs (LimitReceiving d n) Accepted = keeps_none message_of (is_same c d) (frame.LimitReceiving d n) (on c fs) refl
message_accepted c fs (Finish d) Accepted = keeps_none message_of (is_same c d) (frame.Finish d) (on c fs) refl
message_accepted c fs Arrive Accepted = refl
message_accepted c fs (Deliver count) Accepted = refl
message_accepted c fs (Take d) Accepted = refl
message_accepted c fs act a = refl

message_at : (b : Bool) (c : Channel) (fs : List Frame) (act : Act) (a : Answer) → cons_option (if b then sent_body c act a else None) (messages c fs) ≡ messages c (cons_option (if b then frame_put act a else None) fs)
message_at true c fs act a = message_accepted c fs act a
message_at false c fs act a = refl

pub accepted_are : (c : Channel) (s : Side) (history : History) → accepted c s history ≡ messages c (puts s history)
accepted_are c s [] = refl
accepted_are c s (p ∷ history) =
    ap (λ (ms : List (List ℕ)). cons_option (at_side (sent_body c) s p) ms) (accepted_are c s history)
    ∙ message_at (is_side s p.0.side) c (puts s history) p.0.act p.1

-- the amounts that are issued are those of the frames that are put
abbrev pub issues : Channel → List Frame → List ℕ
issues c fs = filter_map issue_of (on c fs)

amount_issued : (c : Channel) (fs : List Frame) (act : Act) (a : Answer) → cons_option (issued_amount c act a) (issues c fs) ≡ issues c (cons_option (frame_put act a) fs)
amount_issued c fs (Issue d n) Accepted = keeps_one issue_of (is_same c d) (frame.Issue d n) (on c fs)
amount_issued c fs (Send d body) Accepted = keeps_none issue_of (is_same c d) (frame.Send d body) (on c fs) refl
amount_issued c fs (Plead d n) Accepted = keeps_none issue_of (is_same c d) (frame.Plead d n) (on c fs) refl
amount_issued c fs (Absolve d n) Accepted = keeps_none issue_of (is_same c d) (frame.Absolve d n) (on c fs) refl
amount_issued c fs (Honour d) (Absolved n) = keeps_none issue_of (is_same c d) (frame.Absolve d n) (on c fs) refl
amount_issued c fs (LimitSending d n) Accepted = keeps_none issue_of (is_same c d) (frame.LimitSending d n) (on c fs) refl
amount_issued c fs (LimitReceiving d n) Accepted = keeps_none issue_of (is_same c d) (frame.LimitReceiving d n) (on c fs) refl
amount_issued c fs (Finish d) Accepted = keeps_none issue_of (is_same c d) (frame.Finish d) (on c fs) refl
amount_issued c fs Arrive Accepted = refl
amount_issued c fs (Deliver count) Accepted = refl
amount_issued c fs (Take d) Accepted = refl
amount_issued c fs act a = refl

amount_at : (b : Bool) (c : Channel) (fs : List Frame) (act : Act) (a : Answer) → cons_option (if b then issued_amount c act a else None) (issues c fs) ≡ issues c (cons_option (if b then frame_put act a else None) fs)
amount_at true c fs act a = amount_issued c fs act a
amount_at false c fs act a = refl

pub amounts_are : (c : Channel) (s : Side) (history : History) → amounts c s history ≡ issues c (puts s history)
amounts_are c s [] = refl
amounts_are c s (p ∷ history) =
    ap (λ (ns : List ℕ). cons_option (at_side (issued_amount c) s p) ns) (amounts_are c s history)
    ∙ amount_at (is_side s p.0.side) c (puts s history) p.0.act p.1
