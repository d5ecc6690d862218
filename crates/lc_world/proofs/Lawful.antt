-- No frame that arrives is refused.
use Rattle.std.proofs.Common.{◌≡◌, ℕ, zero, suc, ◌+◌, ◌≤◌, Bool, true, false, List, [], ◌∷◌, length, Option, Some, None, refl, sym, ap, ◌∙◌, subst, inl, inr, arith}
use Rattle.std.specs.Prelude.{◌⊎◌, ◌-◌, nat_lt, if◌then◌else◌}
use Rattle.std.specs.Option.{option_or}
use Rattle.std.specs.List.{AllByRecursion}
use Rattle.std.proofs.lemmas.Bool.Decides.{nat_tests}
use Rattle.lc_frame.specs.declared.channel.Channel.{Channel}
use Rattle.lc_frame.specs.declared.frame.Frame.{Frame}
use Rattle.lc_frame.specs.declared.frame.Frame.TheVariants as frame
use Rattle.lc_frame.specs.Frame.{channel_of}
use Rattle.lc_frame.specs.Kind.{max_amount, max_total}
use Rattle.lc_frame.specs.Stream.{cost, issued, absolved, finished}
use Rattle.lc_frame.proofs.Measures.{cost-append, issued-append, absolved-append, cost-one, issued-one, absolved-one}
use Rattle.lc_book.specs.declared.fault.Refusal.{Refusal}
use Rattle.lc_book.specs.declared.fault.Refusal.TheVariants.{OutOfMemory}
use Rattle.lc_book.specs.declared.fault.Violation.{Violation}
use Rattle.lc_book.specs.Limit.{is_past}
use Rattle.lc_book.specs.Client.{Client, held, honour_refusal, amount_to_absolve, issued_violation}
use Rattle.lc_book.specs.Server.{Server, outstanding, message_violation}
use Rattle.lc_peer.specs.Arrivals.{violation}
use Rattle.lc_world.specs.declared.event.Side.{Side}
use Rattle.lc_world.specs.declared.event.Side.TheVariants.{A, B}
use Rattle.lc_world.specs.declared.event.Act.{Act}
use Rattle.lc_world.specs.declared.event.Act.TheVariants.{Send, Issue, Plead, Absolve, Honour, LimitSending, LimitReceiving, Finish, Arrive, Deliver, Take}
use Rattle.lc_world.specs.declared.event.Answer.{Answer}
use Rattle.lc_world.specs.declared.event.Answer.TheVariants.{Refused}
use Rattle.lc_world.specs.State.{State, Versions, opening, Line, stream, client_book, server_book, size, arrive_first, arrive_on}
use Rattle.lc_world.specs.Answers.{judged, honour_judged, arrival, arrive_answer, bytes_in_flight, delivery_violation, delivery, deliver_answer, empty_or_ended, take_answer, waiting, answer_of, IsAnswer, after, refusal}
use Rattle.lc_world.specs.Histories.{History, IsLegal, IsHistory}
use Rattle.lc_world.specs.Guarantee.{IsLawful}
use Rattle.lc_world.specs.Sound.{FitsAfter, AllFit, Sound, IsSound}
use Rattle.lc_world.proofs.Limits.{all_fit_rest}
use Rattle.lc_world.proofs.Sound.{none_waived, cost-cut, issued-cut, absolved-cut, taken_cost, sound_comes, sound_gets}
use Rattle.lc_world.proofs.Streams.{stream-arrive}
use Rattle.lc_world.proofs.Steps.{sound_step, sound_opened, same_capacity}

-- a sum over a stream, by the first frame in flight
module _ (c : Channel) (l : Line) (f : Frame) (rest : List Frame) (e : l.in_flight ≡ f ∷ rest) where
  cost-first : cost c (stream l) ≡ cost c l.arrived + (cost c (f ∷ []) + cost c rest)
  cost-first = omega (arith, cost-cut c l, ap (cost c) e, cost-append c (f ∷ []) rest)

  issued-first : issued c (stream l) ≡ issued c l.arrived + (issued c (f ∷ []) + issued c rest)
  issued-first = omega (arith, issued-cut c l, ap (issued c) e, issued-append c (f ∷ []) rest)

  absolved-first : absolved c (stream l) ≡ absolved c l.arrived + (absolved c (f ∷ []) + absolved c rest)
  absolved-first = omega (arith, absolved-cut c l, ap (absolved c) e, absolved-append c (f ∷ []) rest)

-- a message or an absolving at the server, whose line is the second
message_is_covered : (capacity : ℕ) (c : Channel) (mine theirs : Line) (body : List ℕ) (rest : List Frame) → mine.in_flight ≡ frame.Send c body ∷ rest → finished c mine.arrived ≡ false → Sound capacity c mine theirs → length body ≤ outstanding (server_book capacity c theirs mine)
message_is_covered capacity c mine theirs body rest e unfinished s =
    let f : Frame = frame.Send c body in
    omega (arith, s.solvent, cost-one f, cost-first c mine f rest e, absolved-cut c mine, issued-cut c theirs, none_waived (finished c mine.arrived) (issued c (stream theirs) - cost c mine.arrived - absolved c mine.arrived) unfinished)

absolving_is_covered : (capacity : ℕ) (c : Channel) (mine theirs : Line) (n : ℕ) (rest : List Frame) → mine.in_flight ≡ frame.Absolve c n ∷ rest → finished c mine.arrived ≡ false → Sound capacity c mine theirs → n ≤ outstanding (server_book capacity c theirs mine)
absolving_is_covered capacity c mine theirs n rest e unfinished s =
    let f : Frame = frame.Absolve c n in
    omega (arith, s.solvent, absolved-one f, absolved-first c mine f rest e, cost-cut c mine, issued-cut c theirs, none_waived (finished c mine.arrived) (issued c (stream theirs) - cost c mine.arrived - absolved c mine.arrived) unfinished)

-- an issue at the client
issue_is_small : (capacity : ℕ) (c : Channel) (mine theirs : Line) (n : ℕ) (rest : List Frame) → capacity ≤ max_amount → theirs.in_flight ≡ frame.Issue c n ∷ rest → Sound capacity c mine theirs → held (client_book c mine theirs) + n ≤ max_amount
issue_is_small capacity c mine theirs n rest small e s =
    let f : Frame = frame.Issue c n in
    omega (arith, small, s.solvent, s.roomy, taken_cost c mine, issued-one f, issued-first c theirs f rest e, cost-cut c mine, absolved-cut c mine)

issue_is_in_total : (capacity : ℕ) (c : Channel) (mine theirs : Line) (n : ℕ) (rest : List Frame) → theirs.in_flight ≡ frame.Issue c n ∷ rest → Sound capacity c mine theirs → issued c theirs.arrived + n ≤ max_total
issue_is_in_total capacity c mine theirs n rest e s = let f : Frame = frame.Issue c n in omega (arith, s.total, issued-one f, issued-first c theirs f rest e)

-- a reason for a violation that does not hold
not_this : (b : Bool) (v : Violation) (rest : Option Violation) → b ≡ false → rest ≡ None → (if b then Some v else rest) ≡ None
not_this b v rest e h = ap (λ (d : Bool). if d then Some v else rest) e ∙ h

not_below : (m n : ℕ) → n ≤ m → nat_lt m n ≡ false
not_below m n le = grind (arith, nat_tests)

message_passes : (b : Server) (n : ℕ) → b.finished ≡ false → n ≤ outstanding b → is_past b.send_left n ≡ false → message_violation b n ≡ None
message_passes b n unfinished covered fits = not_this b.finished _ _ unfinished (not_this (nat_lt (outstanding b) n) _ _ (not_below (outstanding b) n covered) (not_this (is_past b.send_left n) _ _ fits refl))

issue_passes : (b : Client) (n : ℕ) → is_past b.receive_left n ≡ false → held b + n ≤ max_amount → b.received + n ≤ max_total → issued_violation b n ≡ None
issue_passes b n fits small total = not_this (is_past b.receive_left n) _ _ fits (not_this (nat_lt max_amount (held b + n)) _ _ (not_below max_amount (held b + n) small) (not_this (nat_lt max_total (b.received + n)) _ _ (not_below max_total (b.received + n) total) refl))

-- no answer to an own event, and none to a take, is a violation
lawful_judged : (refused : Option Refusal) → IsLawful (judged refused)
lawful_judged None = tt
lawful_judged (Some r) = tt

lawful_honoured : (refused : Option Refusal) (amount : Option ℕ) → IsLawful (honour_judged refused amount)
lawful_honoured (Some r) amount = tt
lawful_honoured None None = tt
lawful_honoured None (Some n) = tt

lawful_empty_or_ended : (finished : Bool) (left : Option ℕ) → IsLawful (empty_or_ended finished left)
lawful_empty_or_ended true left = tt
lawful_empty_or_ended false None = tt
lawful_empty_or_ended false (Some zero) = tt
lawful_empty_or_ended false (Some (suc n)) = tt

lawful_take : (book : Server) (bodies : List (List ℕ)) → IsLawful (take_answer book bodies)
lawful_take book [] = lawful_empty_or_ended book.finished book.send_left
lawful_take book (body ∷ bodies) = tt

-- what is sound of two lines where the frames of the second arrive at the side whose line is the first
pub record SoundTo (capacity : ℕ) (mine theirs : Line) : Type 0 where
  pub as_client : (c : Channel) → Sound capacity c mine theirs
  pub as_server : (c : Channel) → Sound capacity c theirs mine
  pub fits : AllFit [] (stream theirs)

pub arrives_soundly : (capacity : ℕ) (mine theirs : Line) → SoundTo capacity mine theirs → SoundTo capacity mine (arrive_on theirs)
arrives_soundly capacity mine theirs s = record {
  as_client = λ c. sound_gets capacity c mine theirs (s.as_client c);
  as_server = λ c. sound_comes capacity c theirs mine (s.as_server c);
  fits = subst (λ (fs : List Frame). AllFit [] fs) (sym (stream-arrive theirs)) s.fits;
}

-- the first frame in flight breaks no rule where it arrives
module _ (capacity : ℕ) (small : capacity ≤ max_amount) (mine theirs : Line) (s : SoundTo capacity mine theirs) where
  next_fits : (f : Frame) (rest : List Frame) → theirs.in_flight ≡ f ∷ rest → FitsAfter theirs.arrived f
  next_fits f rest e = (subst (λ (fs : List Frame). AllFit theirs.arrived fs) e (all_fit_rest [] theirs.arrived theirs.in_flight s.fits)).0

  passes : (f : Frame) (rest : List Frame) → theirs.in_flight ≡ f ∷ rest → FitsAfter theirs.arrived f → violation (client_book (channel_of f) mine theirs) (server_book capacity (channel_of f) mine theirs) f ≡ None
  passes (frame.Send c body) rest e fits = message_passes (server_book capacity c mine theirs) (length body) fits.1 (message_is_covered capacity c theirs mine body rest e fits.1 (s.as_server c)) fits.0
  passes (frame.Issue c n) rest e fits = issue_passes (client_book c mine theirs) n fits (issue_is_small capacity c mine theirs n rest small e (s.as_client c)) (issue_is_in_total capacity c mine theirs n rest e (s.as_client c))
  passes (frame.Absolve c n) rest e fits = let b : Server = server_book capacity c mine theirs in not_this b.finished _ _ fits (not_this (nat_lt (outstanding b) n) _ _ (not_below (outstanding b) n (absolving_is_covered capacity c theirs mine n rest e fits (s.as_server c))) refl)
  passes (frame.Plead c n) rest e fits = refl
  passes (frame.LimitSending c bound) rest e fits = not_this (finished c theirs.arrived) _ _ fits.1 (not_this (is_past (server_book capacity c mine theirs).send_left bound) _ _ fits.0 refl)
  passes (frame.LimitReceiving c bound) rest e fits = not_this (is_past (client_book c mine theirs).receive_left bound) _ _ fits refl
  passes (frame.Finish c) rest e fits = not_this (finished c theirs.arrived) _ _ fits refl

  pub no_violation : (f : Frame) (rest : List Frame) → theirs.in_flight ≡ f ∷ rest → violation (client_book (channel_of f) mine theirs) (server_book capacity (channel_of f) mine theirs) f ≡ None
  no_violation f rest e = passes f rest e (next_fits f rest e)

lawful_delivery : (o : Option Violation) (bytes frames : ℕ) → o ≡ None → IsLawful (delivery o bytes frames)
lawful_delivery None bytes frames e = tt
lawful_delivery (Some v) bytes frames e = absurd (let none = e in cc)

-- and no other frame of those that are delivered does
neither : (a b : Option Violation) → a ≡ None → b ≡ None → option_or a b ≡ None
neither a b e h = ap (λ (o : Option Violation). option_or o b) e ∙ h

module _ (capacity : ℕ) (small : capacity ≤ max_amount) (mine : Line) where
  pub all_pass : (frames : List Frame) (n : ℕ) (theirs : Line) → theirs.in_flight ≡ frames → SoundTo capacity mine theirs → delivery_violation capacity mine frames n theirs ≡ None
  all_pass [] n theirs e s = refl
  all_pass (f ∷ rest) n theirs e s =
      let next : Line = arrive_first theirs (f ∷ rest) in
      let sound : SoundTo capacity mine next = subst (λ (fs : List Frame). SoundTo capacity mine (arrive_first theirs fs)) e (arrives_soundly capacity mine theirs s) in
      elim (nat_lt n (size theirs.version f)) as (λ b. (if b then None else option_or (violation (client_book (channel_of f) mine theirs) (server_book capacity (channel_of f) mine theirs) f) (delivery_violation capacity mine rest (n - size theirs.version f) next)) ≡ None) [
        | true ↦ refl
        | false ↦ neither _ _ (no_violation capacity small mine theirs s f rest e) (all_pass rest (n - size theirs.version f) next refl sound)
      ]

module _ (capacity : ℕ) (small : capacity ≤ max_amount) (mine theirs : Line) (s : SoundTo capacity mine theirs) where
  arrives_lawfully : (in_flight : List Frame) → theirs.in_flight ≡ in_flight → IsLawful (arrive_answer capacity mine theirs in_flight)
  arrives_lawfully [] e = tt
  arrives_lawfully (f ∷ rest) e = subst (λ (v : Option Violation). IsLawful (arrival v)) (sym (no_violation capacity small mine theirs s f rest e)) tt

  delivers_lawfully : (count bytes : ℕ) → IsLawful (deliver_answer capacity mine theirs count bytes)
  delivers_lawfully count zero = tt
  delivers_lawfully count (suc n) = lawful_delivery _ _ _ (all_pass capacity small mine theirs.in_flight (theirs.begun + (count - theirs.greeting_left)) theirs refl s)

  -- the right answer is lawful
  lawful_answer : (act : Act) → IsLawful (answer_of capacity mine theirs act)
  lawful_answer (Send c body) = lawful_judged (refusal (client_book c mine theirs) (server_book capacity c mine theirs) (Send c body))
  lawful_answer (Issue c n) = lawful_judged (refusal (client_book c mine theirs) (server_book capacity c mine theirs) (Issue c n))
  lawful_answer (Plead c n) = lawful_judged (refusal (client_book c mine theirs) (server_book capacity c mine theirs) (Plead c n))
  lawful_answer (Absolve c n) = lawful_judged (refusal (client_book c mine theirs) (server_book capacity c mine theirs) (Absolve c n))
  lawful_answer (Honour c) = lawful_honoured (honour_refusal (client_book c mine theirs)) (amount_to_absolve (client_book c mine theirs))
  lawful_answer (LimitSending c n) = lawful_judged (refusal (client_book c mine theirs) (server_book capacity c mine theirs) (LimitSending c n))
  lawful_answer (LimitReceiving c n) = lawful_judged (refusal (client_book c mine theirs) (server_book capacity c mine theirs) (LimitReceiving c n))
  lawful_answer (Finish c) = lawful_judged (refusal (client_book c mine theirs) (server_book capacity c mine theirs) (Finish c))
  lawful_answer Arrive = arrives_lawfully theirs.in_flight refl
  lawful_answer (Deliver count) = delivers_lawfully count (bytes_in_flight theirs)
  lawful_answer (Take c) = lawful_take (server_book capacity c mine theirs) (waiting c theirs)

-- and want of memory too
lawful_unless : (right a : Answer) (M : Type 0) → (a ≡ right) ⊎ (M × (a ≡ Refused OutOfMemory)) → IsLawful right → IsLawful a
lawful_unless right a M h lawful =
    elim h [
      | inl e ↦ subst (λ (x : Answer). IsLawful x) (sym e) lawful
      | inr p ↦ subst (λ (x : Answer). IsLawful x) (sym p.1) tt
    ]

pub sound_to_a : (w : State) → IsSound w → SoundTo w.capacity w.a w.b
sound_to_a w g = record { as_client = g.sums A; as_server = g.sums B; fits = g.limits B }

pub sound_to_b : (w : State) → IsSound w → SoundTo w.capacity w.b w.a
sound_to_b w g = record { as_client = g.sums B; as_server = g.sums A; fits = g.limits A }

lawful_step : (w : State) (side : Side) (act : Act) (a : Answer) → w.capacity ≤ max_amount → IsSound w → IsAnswer w (record { side = side; act = act }) a → IsLawful a
lawful_step w A act a small g h = lawful_unless (answer_of w.capacity w.a w.b act) a _ h (lawful_answer w.capacity small w.a w.b (sound_to_a w g) act)
lawful_step w B act a small g h = lawful_unless (answer_of w.capacity w.b w.a act) a _ h (lawful_answer w.capacity small w.b w.a (sound_to_b w g) act)

lawful_all : (w : State) (history : History) → w.capacity ≤ max_amount → IsSound w → IsLegal w history → AllByRecursion (λ p. IsLawful p.1) history
lawful_all w [] small g h = tt
lawful_all w (p ∷ history) small g h = (
  lawful_step w p.0.side p.0.act p.1 small g h.0,
  lawful_all (after w p.0 p.1) history (omega (arith, small, same_capacity w p.0.side p.0.act p.1)) (sound_step w p.0.side p.0.act p.1 h.0 g) h.1,
)

pub lawful_history : (capacity : ℕ) (versions : Versions) (history : History) → IsHistory capacity versions history → AllByRecursion (λ p. IsLawful p.1) history
lawful_history capacity versions history h = lawful_all (opening capacity versions) history h.is_capacity.at_most (sound_opened capacity versions) h.legal
