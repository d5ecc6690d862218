-- An order of two sides' steps, each allowed by its side's books, is a history of two peers.
use Rattle.std.proofs.Common.{◌≡◌, ℕ, ◌+◌, ◌≤◌, ◌<◌, Bool, false, List, [], ◌∷◌, ◌++◌, length, take, drop, Option, Some, None, refl, sym, ap, subst, ◌∙◌, inl, inr, arith}
use Rattle.std.specs.Prelude.{sum_by, slice_get, if◌then◌else◌}
use Rattle.std.specs.List.{filter_map, cons_option}
use Rattle.std.proofs.lemmas.List.{append-nil, append_assoc, append_cancel_left, length-append, take_at, drop_at}
use Rattle.std.proofs.lemmas.List.Elements.{filter_map-append}
use Rattle.lc_history.specs.History.{IsHistoryAfter}
use Rattle.lc_frame.specs.declared.version.Version.{Version}
use Rattle.lc_frame.specs.declared.channel.Channel.{Channel}
use Rattle.lc_frame.specs.declared.frame.Frame.{Frame}
use Rattle.lc_frame.specs.declared.frame.Frame.TheVariants.{Send, Issue, Absolve, Plead, LimitSending, LimitReceiving, Finish}
use Rattle.lc_frame.specs.Channel.{number_of, is_same}
use Rattle.lc_frame.specs.Frame.{channel_of}
use Rattle.lc_frame.specs.Kind.{max_amount}
use Rattle.lc_frame.specs.Stream.{messages}
use Rattle.lc_frame.proofs.Channels.{cases_same, same_is_same}
use Rattle.lc_frame.proofs.Measures.{messages-append}
use Rattle.lc_book.specs.Server.{Server}
use Rattle.lc_book.specs.Sums.{client_of, server_of}
use Rattle.lc_peer.specs.Calls.{book_refusal}
use Rattle.lc_world.specs.declared.event.Side.TheVariants.{A, B}
use Rattle.lc_world.specs.declared.event.Act.TheVariants.{Arrive}
use Rattle.lc_world.specs.declared.event.Answer.TheVariants.{Accepted, Arrived}
use Rattle.lc_world.specs.State.{State, Versions, Line, opening, stream, taken_count, taken_messages, client_book, server_book, kept_plead, put_on, arrive_first, arrive_on, take_on, forget_finished}
use Rattle.lc_world.specs.Answers.{judged, arrival, arrive_answer, take_answer, waiting, IsAnswerOf, mine_after, theirs_after, state_after}
use Rattle.lc_world.specs.Histories.{after_all, IsLegal}
use Rattle.lc_world.specs.Sound.{IsSound}
use Rattle.lc_world.proofs.Streams.{stream-put, stream-arrive}
use Rattle.lc_world.proofs.Sound.{count-here, count-elsewhere}
use Rattle.lc_world.proofs.Steps.{sound_step, sound_opened}
use Rattle.lc_world.proofs.Lawful.{SoundTo, no_violation, sound_to_a, sound_to_b}
use Rattle.lc_interleaving.specs.Steps.{Step, put_of, heard_of, took_of, put, heard, took, client_then, server_then}
use Rattle.lc_interleaving.specs.Steps.Step.{puts, hears, takes}
use Rattle.lc_interleaving.specs.Interleaving.{Joint, a_step, b_step, of_a, of_b, HearsNext, IsCausal}
use Rattle.lc_interleaving.specs.Interleaving.Joint.{at_a, at_b}
use Rattle.lc_interleaving.specs.History.{act_putting, act_of, answer_to, history_of}

-- a side's step may follow those before it, by its own books: its frame is not refused, and it takes the first message that waits
abbrev pub MayStep : ℕ → Version → List Step → Step → Type 0
MayStep capacity version before (puts f) = book_refusal (client_then version (channel_of f) before) (server_then capacity (channel_of f) before) f ≡ None
MayStep capacity version before (hears f) = Unit {0}
MayStep capacity version before (takes c body) = slice_get (drop (length (took c before)) (messages c (heard before))) 0 ≡ Some body

-- a frame that the books allow is accepted
accepted : (capacity : ℕ) (mine theirs : Line) (f : Frame) → book_refusal (client_book (channel_of f) mine theirs) (server_book capacity (channel_of f) mine theirs) f ≡ None → IsAnswerOf capacity mine theirs (act_putting f) Accepted
accepted capacity mine theirs (Send c body) e = inl (sym (ap judged e))
accepted capacity mine theirs (Issue c n) e = inl (sym (ap judged e))
accepted capacity mine theirs (Absolve c n) e = inl (sym (ap judged e))
accepted capacity mine theirs (Plead c n) e = inl (sym (ap judged e))
accepted capacity mine theirs (LimitSending c n) e = inl (sym (ap judged e))
accepted capacity mine theirs (LimitReceiving c n) e = inl (sym (ap judged e))
accepted capacity mine theirs (Finish c) e = inl (sym (ap judged e))

-- a frame that is the next of those put is the first in flight, and arrives
pub first_in_flight : (l : Line) (all before : List Frame) (f : Frame) (rest : List Frame) → stream l ≡ all → l.arrived ≡ before → all ≡ before ++ f ∷ rest → l.in_flight ≡ f ∷ rest
first_in_flight l all before f rest es ea e = append_cancel_left before l.in_flight (f ∷ rest) (ap (λ (fs : List Frame). fs ++ l.in_flight) (sym ea) ∙ (es ∙ e))

arrives : (capacity : ℕ) (mine theirs : Line) → capacity ≤ max_amount → SoundTo capacity mine theirs → (f : Frame) (rest : List Frame) → theirs.in_flight ≡ f ∷ rest → IsAnswerOf capacity mine theirs Arrive Arrived
arrives capacity mine theirs small s f rest e =
    let passes : arrive_answer capacity mine theirs theirs.in_flight ≡ Arrived = ap (λ (fs : List Frame). arrive_answer capacity mine theirs fs) e ∙ ap arrival (no_violation capacity small mine theirs s f rest e) in
    inl (sym passes)

arrived_is : (l : Line) (f : Frame) (rest : List Frame) → l.in_flight ≡ f ∷ rest → (arrive_on l).arrived ≡ l.arrived ++ f ∷ []
arrived_is l f rest e = ap (λ (fs : List Frame). (arrive_first l fs).arrived) e

count_is : (c : Channel) (l : Line) (f : Frame) (rest : List Frame) → l.in_flight ≡ f ∷ rest → taken_count c (arrive_on l) ≡ taken_count c l
count_is c l f rest e = ap (λ (fs : List Frame). taken_count c (arrive_first l fs)) e

-- one step more, by what it is of a kind
pub grown : {E X : Type 0} (of : E → Option X) (steps : List E) (step : E) → filter_map of steps ++ cons_option (of step) [] ≡ filter_map of (steps ++ step ∷ [])
grown of steps step = sym (filter_map-append of steps (step ∷ []))

same : {X : Type 0} (of : Step → Option X) (steps : List Step) (step : Step) → of step ≡ None → filter_map of steps ≡ filter_map of (steps ++ step ∷ [])
same of steps step e = sym (append-nil (filter_map of steps)) ∙ (ap (λ o. filter_map of steps ++ cons_option o []) (sym e) ∙ grown of steps step)

-- the messages of a channel that were taken lead those that arrived
pub record TakesOf (l : Line) (reader : List Step) (c : Channel) : Type 0 where
  pub count : taken_count c l ≡ length (took c reader)
  pub rest : List (List ℕ)
  pub some : messages c (heard reader) ≡ took c reader ++ rest

-- a line is the stream that one side put, as far as the other heard and took it
pub record IsLineOf (version : Version) (l : Line) (writer reader : List Step) : Type 0 where
  pub is_version : l.version ≡ version
  pub put : stream l ≡ put writer
  pub heard : l.arrived ≡ heard reader
  pub takes : (c : Channel) → TakesOf l reader c

-- where the writer takes or hears, or the reader puts, the line stays
takes_stay : (l : Line) (reader : List Step) (step : Step) → heard_of step ≡ None → ((c : Channel) → took_of c step ≡ None) → (c : Channel) → TakesOf l reader c → TakesOf l (reader ++ step ∷ []) c
takes_stay l reader step eh et c s = record {
  count = s.count ∙ ap length (same (took_of c) reader step (et c));
  rest = s.rest;
  some = ap (messages c) (sym (same heard_of reader step eh)) ∙ (s.some ∙ ap (λ (ms : List (List ℕ)). ms ++ s.rest) (same (took_of c) reader step (et c)));
}

writer_stays : {v : Version} (l : Line) (writer reader : List Step) (step : Step) → put_of step ≡ None → IsLineOf v l writer reader → IsLineOf v l (writer ++ step ∷ []) reader
writer_stays l writer reader step e s = record { is_version = s.is_version; put = s.put ∙ same put_of writer step e; heard = s.heard; takes = s.takes }

reader_stays : {v : Version} (l : Line) (writer reader : List Step) (step : Step) → heard_of step ≡ None → ((c : Channel) → took_of c step ≡ None) → IsLineOf v l writer reader → IsLineOf v l writer (reader ++ step ∷ [])
reader_stays l writer reader step eh et s = record { is_version = s.is_version; put = s.put; heard = s.heard ∙ same heard_of reader step eh; takes = λ c. takes_stay l reader step eh et c (s.takes c) }

-- a frame is put, arrives, and a message is taken
line_puts : {v : Version} (l : Line) (writer reader : List Step) (f : Frame) → IsLineOf v l writer reader → IsLineOf v (put_on l f) (writer ++ puts f ∷ []) reader
line_puts l writer reader f s = record {
  is_version = s.is_version;
  put = stream-put l f ∙ (ap (λ (fs : List Frame). fs ++ f ∷ []) s.put ∙ grown put_of writer (puts f));
  heard = s.heard;
  takes = λ c. let t : TakesOf l reader c = s.takes c in record { count = t.count; rest = t.rest; some = t.some };
}

line_hears : {v : Version} (l : Line) (writer reader : List Step) (f : Frame) (rest : List Frame) → l.in_flight ≡ f ∷ rest → IsLineOf v l writer reader → IsLineOf v (arrive_on l) writer (reader ++ hears f ∷ [])
line_hears l writer reader f rest e s = record {
  is_version = ap (λ (fs : List Frame). (arrive_first l fs).version) e ∙ s.is_version;
  put = stream-arrive l ∙ s.put;
  heard = arrived_is l f rest e ∙ (ap (λ (fs : List Frame). fs ++ f ∷ []) s.heard ∙ grown heard_of reader (hears f));
  takes = λ c.
      let t : TakesOf l reader c = s.takes c in
      let none : took c reader ≡ took c (reader ++ hears f ∷ []) = same (took_of c) reader (hears f) refl in
      record {
        count = count_is c l f rest e ∙ (t.count ∙ ap length none);
        rest = t.rest ++ messages c (f ∷ []);
        some =
            ap (messages c) (sym (grown heard_of reader (hears f)))
            ∙ (messages-append c (heard reader) (f ∷ [])
            ∙ (ap (λ (ms : List (List ℕ)). ms ++ messages c (f ∷ [])) t.some
            ∙ (append_assoc (took c reader) t.rest (messages c (f ∷ []))
            ∙ ap (λ (ms : List (List ℕ)). ms ++ (t.rest ++ messages c (f ∷ []))) none)));
      };
}

taken_here : (d : Channel) (body : List ℕ) → took_of d (takes d body) ≡ Some body
taken_here d body = ap (λ (b : Bool). if b then Some body else None) (same_is_same d)

taken_elsewhere : (c d : Channel) (body : List ℕ) → is_same c d ≡ false → took_of c (takes d body) ≡ None
taken_elsewhere c d body apart = ap (λ (b : Bool). if b then Some body else None) apart

takes_here : {v : Version} (l : Line) (writer reader : List Step) (d : Channel) (body : List ℕ) (rest : List (List ℕ)) → number_of d < length l.taken → messages d (heard reader) ≡ took d reader ++ body ∷ rest → IsLineOf v l writer reader → TakesOf (take_on d l) (reader ++ takes d body ∷ []) d
takes_here l writer reader d body rest places e s =
    let t : TakesOf l reader d = s.takes d in
    let one : took d reader ++ body ∷ [] ≡ took d (reader ++ takes d body ∷ []) = ap (λ o. took d reader ++ cons_option o []) (sym (taken_here d body)) ∙ grown (took_of d) reader (takes d body) in
    record {
      count = count-here d l places ∙ (ap (λ (n : ℕ). n + 1) t.count ∙ (sym (length-append (took d reader) (body ∷ [])) ∙ ap length one));
      rest = rest;
      some =
          ap (messages d) (sym (same heard_of reader (takes d body) refl))
          ∙ (e
          ∙ (sym (append_assoc (took d reader) (body ∷ []) rest)
          ∙ ap (λ (ms : List (List ℕ)). ms ++ rest) one));
    }

takes_elsewhere : {v : Version} (l : Line) (writer reader : List Step) (c d : Channel) (body : List ℕ) → is_same c d ≡ false → IsLineOf v l writer reader → TakesOf (take_on d l) (reader ++ takes d body ∷ []) c
takes_elsewhere l writer reader c d body apart s =
    let t : TakesOf l reader c = s.takes c in
    let none : took c reader ≡ took c (reader ++ takes d body ∷ []) = same (took_of c) reader (takes d body) (taken_elsewhere c d body apart) in
    record {
      count = count-elsewhere c d l apart ∙ (t.count ∙ ap length none);
      rest = t.rest;
      some = ap (messages c) (sym (same heard_of reader (takes d body) refl)) ∙ (t.some ∙ ap (λ (ms : List (List ℕ)). ms ++ t.rest) none);
    }

line_takes : {v : Version} (l : Line) (writer reader : List Step) (d : Channel) (body : List ℕ) (rest : List (List ℕ)) → number_of d < length l.taken → messages d (heard reader) ≡ took d reader ++ body ∷ rest → IsLineOf v l writer reader → IsLineOf v (take_on d l) writer (reader ++ takes d body ∷ [])
line_takes l writer reader d body rest places e s = record {
  is_version = s.is_version;
  put = s.put;
  heard = s.heard ∙ same heard_of reader (takes d body) refl;
  takes = λ c.
      elim (cases_same c d) [
        | inl here ↦ subst (λ (x : Channel). TakesOf (take_on d l) (reader ++ takes d body ∷ []) x) (sym here) (takes_here l writer reader d body rest places e s)
        | inr apart ↦ takes_elsewhere l writer reader c d body apart s
      ];
}

-- which pleads are kept does not matter
line_forgets : {v : Version} (mine l : Line) (writer reader : List Step) → IsLineOf v l writer reader → IsLineOf v (forget_finished mine l) writer reader
line_forgets mine l writer reader s = record {
  is_version = s.is_version;
  put = s.put;
  heard = s.heard;
  takes = λ c. let t : TakesOf l reader c = s.takes c in record { count = t.count; rest = t.rest; some = t.some };
}

-- the first message that waits, behind those that were taken
first_of : (xs : List (List ℕ)) (body : List ℕ) → slice_get xs 0 ≡ Some body → (rest : List (List ℕ)) × (xs ≡ body ∷ rest)
first_of [] body e = absurd (cc)
first_of (x ∷ xs) body e = (xs, let same : x ≡ body = cc in ap (λ (y : List ℕ). y ∷ xs) same)

waits_first : (l : Line) (reader : List Step) (c : Channel) (body : List ℕ) → TakesOf l reader c → slice_get (drop (length (took c reader)) (messages c (heard reader))) 0 ≡ Some body → (rest : List (List ℕ)) × (messages c (heard reader) ≡ took c reader ++ body ∷ rest)
waits_first l reader c body s may =
    let left : drop (length (took c reader)) (messages c (heard reader)) ≡ s.rest = ap (drop (length (took c reader))) s.some ∙ drop_at (took c reader) s.rest (length (took c reader)) refl in
    let first : (rest : List (List ℕ)) × (s.rest ≡ body ∷ rest) = first_of s.rest body (ap (λ (ms : List (List ℕ)). slice_get ms 0) (sym left) ∙ may) in
    (first.0, s.some ∙ ap (λ (ms : List (List ℕ)). took c reader ++ ms) first.1)

-- the messages taken off a line
pub taken_off : {v : Version} (l : Line) (writer reader : List Step) (c : Channel) → IsLineOf v l writer reader → taken_messages c l ≡ took c reader
taken_off l writer reader c s =
    let t : TakesOf l reader c = s.takes c in
    ap (λ (n : ℕ). take n (messages c l.arrived)) t.count
    ∙ (ap (λ (fs : List Frame). take (length (took c reader)) (messages c fs)) s.heard
    ∙ (ap (λ (ms : List (List ℕ)). take (length (took c reader)) ms) t.some
    ∙ take_at (took c reader) t.rest (length (took c reader)) refl))

-- what a side's own books allow, those of the lines do; which plead is kept does not matter
no_plead : (version : Version) (c : Channel) (put heard : List Frame) (asked : Option ℕ) (server : Server) (f : Frame) → book_refusal (client_of version c put heard asked) server f ≡ book_refusal (client_of version c put heard None) server f
no_plead version c put heard asked server (Send d body) = refl
no_plead version c put heard asked server (Issue d n) = refl
no_plead version c put heard asked server (Absolve d n) = refl
no_plead version c put heard asked server (Plead d n) = refl
no_plead version c put heard asked server (LimitSending d n) = refl
no_plead version c put heard asked server (LimitReceiving d n) = refl
no_plead version c put heard asked server (Finish d) = refl

-- what a step leaves of the lines, where a frame is put
mine_put : (mine theirs : Line) (f : Frame) → mine_after mine theirs (act_putting f) Accepted ≡ put_on mine f
mine_put mine theirs (Send d body) = refl
mine_put mine theirs (Issue d n) = refl
mine_put mine theirs (Absolve d n) = refl
mine_put mine theirs (Plead d n) = refl
mine_put mine theirs (LimitSending d n) = refl
mine_put mine theirs (LimitReceiving d n) = refl
mine_put mine theirs (Finish d) = refl

theirs_put : (mine theirs : Line) (f : Frame) → theirs_after mine theirs (act_putting f) Accepted ≡ theirs
theirs_put mine theirs (Send d body) = refl
theirs_put mine theirs (Issue d n) = refl
theirs_put mine theirs (Absolve d n) = refl
theirs_put mine theirs (Plead d n) = refl
theirs_put mine theirs (LimitSending d n) = refl
theirs_put mine theirs (LimitReceiving d n) = refl
theirs_put mine theirs (Finish d) = refl

-- a step at the side whose line is the first
record Steps (v w : Version) (capacity : ℕ) (mine theirs : Line) (me peer : List Step) (step : Step) : Type 0 where
  right : IsAnswerOf capacity mine theirs (act_of step) (answer_to step)
  mine_is : IsLineOf v (mine_after mine theirs (act_of step) (answer_to step)) (me ++ step ∷ []) peer
  theirs_is : IsLineOf w (theirs_after mine theirs (act_of step) (answer_to step)) peer (me ++ step ∷ [])

-- the server's book, by the lines and by what the side did
pub server_is : {v w : Version} (capacity : ℕ) (mine theirs : Line) (me peer : List Step) → IsLineOf v mine me peer → IsLineOf w theirs peer me → (c : Channel) → server_book capacity c mine theirs ≡ server_then capacity c me
server_is capacity mine theirs me peer m t c =
    ap (λ (fs : List Frame). server_of capacity c fs theirs.arrived (sum_by length (taken_messages c theirs))) m.put
    ∙ (ap (λ (fs : List Frame). server_of capacity c (put me) fs (sum_by length (taken_messages c theirs))) t.heard
    ∙ ap (λ (ms : List (List ℕ)). server_of capacity c (put me) (heard me) (sum_by length ms)) (taken_off theirs peer me c t))

module _ (v w : Version) (capacity : ℕ) (small : capacity ≤ max_amount) (mine theirs : Line) (me peer : List Step) (sound : SoundTo capacity mine theirs) (places : (c : Channel) → number_of c < length theirs.taken) (m : IsLineOf v mine me peer) (t : IsLineOf w theirs peer me) where
  allowed : (f : Frame) → MayStep capacity v me (puts f) → book_refusal (client_book (channel_of f) mine theirs) (server_book capacity (channel_of f) mine theirs) f ≡ None
  allowed f may =
      let c : Channel = channel_of f in
      no_plead mine.version c (stream mine) theirs.arrived (kept_plead c theirs) (server_book capacity c mine theirs) f
      ∙ (ap (λ (fs : List Frame). book_refusal (client_of mine.version c fs theirs.arrived None) (server_book capacity c mine theirs) f) m.put
      ∙ (ap (λ (fs : List Frame). book_refusal (client_of mine.version c (put me) fs None) (server_book capacity c mine theirs) f) t.heard
      ∙ (ap (λ (x : Version). book_refusal (client_then x c me) (server_book capacity c mine theirs) f) m.is_version
      ∙ (ap (λ (b : Server). book_refusal (client_then v c me) b f) (server_is capacity mine theirs me peer m t c)
      ∙ may))))

  steps : (step : Step) → MayStep capacity v me step → HearsNext peer me step → Steps v w capacity mine theirs me peer step
  steps (puts f) may next = record {
    right = accepted capacity mine theirs f (allowed f may);
    mine_is = subst (λ (l : Line). IsLineOf v l (me ++ puts f ∷ []) peer) (sym (mine_put mine theirs f)) (line_puts mine me peer f m);
    theirs_is = subst (λ (l : Line). IsLineOf w l peer (me ++ puts f ∷ [])) (sym (theirs_put mine theirs f)) (reader_stays theirs peer me (puts f) refl (λ c. refl) t);
  }
  steps (hears f) may next =
      let first : theirs.in_flight ≡ f ∷ next.0 = first_in_flight theirs (put peer) (heard me) f next.0 t.put t.heard next.1 in
      record {
        right = arrives capacity mine theirs small sound f next.0 first;
        mine_is = writer_stays mine me peer (hears f) refl m;
        theirs_is = line_hears theirs peer me f next.0 first t;
      }
  steps (takes c body) may next =
      let s : TakesOf theirs me c = t.takes c in
      let first : (rest : List (List ℕ)) × (messages c (heard me) ≡ took c me ++ body ∷ rest) = waits_first theirs me c body s may in
      let waits : waiting c theirs ≡ body ∷ first.0 =
      ap (λ (n : ℕ). drop n (messages c theirs.arrived)) s.count
      ∙ (ap (λ (fs : List Frame). drop (length (took c me)) (messages c fs)) t.heard
      ∙ (ap (λ (ms : List (List ℕ)). drop (length (took c me)) ms) first.1
      ∙ drop_at (took c me) (body ∷ first.0) (length (took c me)) refl)) in
      record {
        right = inl (sym (ap (λ (ms : List (List ℕ)). take_answer (server_book capacity c mine theirs) ms) waits));
        mine_is = writer_stays mine me peer (takes c body) refl m;
        theirs_is = line_takes theirs peer me c body first.0 (places c) first.1 t;
      }

-- a state that stands for what both sides did, whose streams are of these versions
pub record StandsFor (va vb : Version) (w : State) (a b : List Step) : Type 0 where
  pub a_line : IsLineOf va w.a a b
  pub b_line : IsLineOf vb w.b b a
  pub sound : IsSound w

opened : (capacity : ℕ) (versions : Versions) → StandsFor (versions A) (versions B) (opening capacity versions) [] []
opened capacity versions = record {
  a_line = record { is_version = refl; put = refl; heard = refl; takes = λ c. record { count = omega (arith, ((sound_opened capacity versions).sums A c).taken_of_arrived); rest = []; some = refl } };
  b_line = record { is_version = refl; put = refl; heard = refl; takes = λ c. record { count = omega (arith, ((sound_opened capacity versions).sums B c).taken_of_arrived); rest = []; some = refl } };
  sound = sound_opened capacity versions;
}

-- the order is causal, where so much was done on both sides before it
abbrev AreCausalAfter : List Step → List Step → List Joint → Type 0
AreCausalAfter a b [] = Unit {0}
AreCausalAfter a b (at_a step ∷ later) = HearsNext b a step × AreCausalAfter (a ++ step ∷ []) b later
AreCausalAfter a b (at_b step ∷ later) = HearsNext a b step × AreCausalAfter a (b ++ step ∷ []) later

causal_after : (before later : List Joint) (a b : List Step) → of_a before ≡ a → of_b before ≡ b → IsHistoryAfter IsCausal before later → AreCausalAfter a b later
causal_after before [] a b ea eb h = tt
causal_after before (at_a step ∷ later) a b ea eb h = (
  subst (λ (xs : List Step). HearsNext xs a step) eb (subst (λ (xs : List Step). HearsNext (of_b before) xs step) ea h.0),
  causal_after (before ++ at_a step ∷ []) later (a ++ step ∷ []) b
      (sym (grown a_step before (at_a step)) ∙ ap (λ (xs : List Step). xs ++ step ∷ []) ea)
      (sym (grown b_step before (at_a step)) ∙ (append-nil (of_b before) ∙ eb))
      h.1,
)
causal_after before (at_b step ∷ later) a b ea eb h = (
  subst (λ (xs : List Step). HearsNext xs b step) ea (subst (λ (xs : List Step). HearsNext (of_a before) xs step) eb h.0),
  causal_after (before ++ at_b step ∷ []) later a (b ++ step ∷ [])
      (sym (grown a_step before (at_b step)) ∙ (append-nil (of_a before) ∙ ea))
      (sym (grown b_step before (at_b step)) ∙ ap (λ (xs : List Step). xs ++ step ∷ []) eb)
      h.1,
)

-- the rest of an order is the rest of a history, and what it leaves stands for all
pub record GoesOn (va vb : Version) (w : State) (a b : List Step) (order : List Joint) : Type 0 where
  pub legal : IsLegal w (history_of order)
  pub stands : StandsFor va vb (after_all w (history_of order)) (a ++ of_a order) (b ++ of_b order)

goes_on : (va vb : Version) (w : State) (a b : List Step) (order : List Joint) → w.capacity ≤ max_amount → StandsFor va vb w a b → IsHistoryAfter (MayStep w.capacity va) a (of_a order) → IsHistoryAfter (MayStep w.capacity vb) b (of_b order) → AreCausalAfter a b order → GoesOn va vb w a b order
goes_on va vb w a b [] small s ha hb t = record {
  legal = tt;
  stands = subst (λ (xs : List Step). StandsFor va vb w xs (b ++ [])) (sym (append-nil a)) (subst (λ (ys : List Step). StandsFor va vb w a ys) (sym (append-nil b)) s);
}
goes_on va vb w a b (at_a step ∷ later) small s ha hb t =
    let d : Steps va vb w.capacity w.a w.b a b step = steps va vb w.capacity small w.a w.b a b (sound_to_a w s.sound) (λ c. (s.sound.sums B c).places) s.a_line s.b_line step ha.0 t.0 in
    let next : State = state_after w A (act_of step) (answer_to step) in
    let mine : Line = mine_after w.a w.b (act_of step) (answer_to step) in
    let theirs : Line = theirs_after w.a w.b (act_of step) (answer_to step) in
    let stands : StandsFor va vb next (a ++ step ∷ []) b = record { a_line = line_forgets theirs mine (a ++ step ∷ []) b d.mine_is; b_line = line_forgets mine theirs b (a ++ step ∷ []) d.theirs_is; sound = sound_step w A (act_of step) (answer_to step) d.right s.sound } in
    let rest : GoesOn va vb next (a ++ step ∷ []) b later = goes_on va vb next (a ++ step ∷ []) b later small stands ha.1 hb t.1 in
    record {
      legal = (d.right, rest.legal);
      stands = subst (λ (xs : List Step). StandsFor va vb (after_all next (history_of later)) xs (b ++ of_b later)) (append_assoc a (step ∷ []) (of_a later)) rest.stands;
    }
goes_on va vb w a b (at_b step ∷ later) small s ha hb t =
    let d : Steps vb va w.capacity w.b w.a b a step = steps vb va w.capacity small w.b w.a b a (sound_to_b w s.sound) (λ c. (s.sound.sums A c).places) s.b_line s.a_line step hb.0 t.0 in
    let next : State = state_after w B (act_of step) (answer_to step) in
    let mine : Line = mine_after w.b w.a (act_of step) (answer_to step) in
    let theirs : Line = theirs_after w.b w.a (act_of step) (answer_to step) in
    let stands : StandsFor va vb next a (b ++ step ∷ []) = record { a_line = line_forgets mine theirs a (b ++ step ∷ []) d.theirs_is; b_line = line_forgets theirs mine (b ++ step ∷ []) a d.mine_is; sound = sound_step w B (act_of step) (answer_to step) d.right s.sound } in
    let rest : GoesOn va vb next a (b ++ step ∷ []) later = goes_on va vb next a (b ++ step ∷ []) later small stands ha hb.1 t.1 in
    record {
      legal = (d.right, rest.legal);
      stands = subst (λ (ys : List Step). StandsFor va vb (after_all next (history_of later)) (a ++ of_a later) ys) (append_assoc b (step ∷ []) (of_b later)) rest.stands;
    }

-- so a whole order, each step of which may follow
pub record MayStepAll (capacity : ℕ) (versions : Versions) (order : List Joint) : Type 0 where
  pub a_may : IsHistoryAfter (MayStep capacity (versions A)) [] (of_a order)
  pub b_may : IsHistoryAfter (MayStep capacity (versions B)) [] (of_b order)
  pub causal : IsHistoryAfter IsCausal [] order

pub whole : (capacity : ℕ) (versions : Versions) (order : List Joint) → capacity ≤ max_amount → MayStepAll capacity versions order → GoesOn (versions A) (versions B) (opening capacity versions) [] [] order
whole capacity versions order small may = goes_on (versions A) (versions B) (opening capacity versions) [] [] order small (opened capacity versions) may.a_may may.b_may (causal_after [] order [] [] refl refl may.causal)
