-- Where nothing is in flight and nothing waits, an issue of the room gives the client the whole capacity.
use Rattle.std.proofs.Common.{◌≡◌, ℕ, ◌+◌, ◌≤◌, Bool, false, List, [], ◌∷◌, ◌++◌, Option, Some, None, refl, sym, ap, ◌∙◌, inl, arith}
use Rattle.std.specs.Prelude.{◌-◌, ◌==◌, nat_lt, if◌then◌else◌}
use Rattle.std.proofs.lemmas.Bool.Decides.{nat_tests}
use Rattle.lc_frame.specs.declared.channel.Channel.{Channel}
use Rattle.lc_frame.specs.declared.frame.Frame.{Frame}
use Rattle.lc_frame.specs.declared.frame.Frame.TheVariants as frame
use Rattle.lc_frame.specs.Kind.{max_body, max_total}
use Rattle.lc_frame.specs.Stream.{cost, issued, absolved, finished}
use Rattle.lc_frame.proofs.Measures.{issued-append, issued-one}
use Rattle.lc_book.specs.declared.fault.Refusal.{Refusal}
use Rattle.lc_book.specs.Limit.{is_past}
use Rattle.lc_book.specs.Client.{Client, held, spend_refusal}
use Rattle.lc_book.specs.Server.{Server, room, issue_refusal}
use Rattle.lc_world.specs.declared.event.Side.{Side}
use Rattle.lc_world.specs.declared.event.Side.TheVariants.{A, B}
use Rattle.lc_world.specs.declared.event.Act.TheVariants.{Issue, Arrive}
use Rattle.lc_world.specs.declared.event.Event.{Event}
use Rattle.lc_world.specs.declared.event.Answer.TheVariants.{Accepted, Arrived}
use Rattle.lc_world.specs.State.{State, opening, Line, other, stream, client, server, client_book, put_on, arrive_on, arrive_first}
use Rattle.lc_world.specs.Answers.{judged, IsAnswer, after}
use Rattle.lc_world.specs.Histories.{History, after_all, IsLegal}
use Rattle.lc_world.specs.Guarantee.{state_of}
use Rattle.lc_world.specs.Sound.{Sound}
use Rattle.lc_world.proofs.Lawful.{sound_to_a, sound_to_b}
use Rattle.lc_world.specs.Credit.{IsQuiet, reissue, CreditComesBack}
use Rattle.lc_world.proofs.Histories.{legal_append, after_append, capacity_stays, sound_of}
use Rattle.lc_world.proofs.Credit.{finished_arrived, whole_of}
use Rattle.lc_world.proofs.Sound.{none_waived}
use Rattle.lc_world.proofs.Streams.{version_kept}
use Rattle.lc_world.proofs.Ways.{Good, good_step, arrives}

not_this : (b : Bool) (r : Refusal) (rest : Option Refusal) → b ≡ false → rest ≡ None → (if b then Some r else rest) ≡ None
not_this b r rest e h = ap (λ (d : Bool). if d then Some r else rest) e ∙ h

not_below : (m n : ℕ) → n ≤ m → nat_lt m n ≡ false
not_below m n le = grind (arith, nat_tests)

not_zero : (n : ℕ) → 1 ≤ n → (n == 0) ≡ false
not_zero n le = grind (arith, nat_tests)

may_issue : (b : Server) (n : ℕ) → b.finished ≡ false → 1 ≤ n → is_past b.receive_left n ≡ false → n ≤ room b → b.issued + n ≤ max_total → issue_refusal b n ≡ None
may_issue b n unfinished some free fits total =
    not_this b.finished _ _ unfinished (not_this (n == 0) _ _ (not_zero n some) (not_this (is_past b.receive_left n) _ _ free (not_this (nat_lt (room b) n) _ _ (not_below (room b) n fits) (not_this (nat_lt max_total (b.issued + n)) _ _ (not_below max_total (b.issued + n) total) refl))))

may_send : (b : Client) (n : ℕ) → b.finished ≡ false → 1 ≤ n → n ≤ max_body b.version → is_past b.send_left n ≡ false → n ≤ held b → spend_refusal b n ≡ None
may_send b n unfinished some small free fits =
    not_this b.finished _ _ unfinished (not_this (n == 0) _ _ (not_zero n some) (not_this (nat_lt (max_body b.version) n) _ _ (not_below (max_body b.version) n small) (not_this (is_past b.send_left n) _ _ free (not_this (nat_lt (held b) n) _ _ (not_below (held b) n fits) refl))))

-- the frame that was put is the only one in flight, and it arrives
only_one : (l : Line) (f : Frame) → l.in_flight ≡ [] → (put_on l f).in_flight ≡ f ∷ []
only_one l f e = ap (λ (fs : List Frame). fs ++ f ∷ []) e

arrived_is : (l : Line) (f : Frame) → l.in_flight ≡ f ∷ [] → (arrive_on l).arrived ≡ l.arrived ++ f ∷ []
arrived_is l f e = ap (λ (fs : List Frame). (arrive_first l fs).arrived) e

more_issued : (c : Channel) (l : Line) (n : ℕ) → l.in_flight ≡ frame.Issue c n ∷ [] → issued c (arrive_on l).arrived ≡ issued c l.arrived + n
more_issued c l n e =
    let f : Frame = frame.Issue c n in
    omega (arith, ap (issued c) (arrived_is l f e), issued-append c l.arrived (f ∷ []), issued-one f)

-- which is more that is held, where the client has not finished
more_held : (capacity : ℕ) (c : Channel) (mine theirs : Line) (n : ℕ) → finished c (stream mine) ≡ false → Sound capacity c mine theirs → theirs.in_flight ≡ frame.Issue c n ∷ [] → held (client_book c mine (arrive_on theirs)) ≡ held (client_book c mine theirs) + n
more_held capacity c mine theirs n unfinished s e =
    let before : ℕ = issued c theirs.arrived - cost c (stream mine) - absolved c (stream mine) in
    let later : ℕ = issued c (arrive_on theirs).arrived - cost c (stream mine) - absolved c (stream mine) in
    omega (arith, s.solvent, more_issued c theirs n e, none_waived (finished c (stream mine)) before unfinished, none_waived (finished c (stream mine)) later unfinished)

-- a Finish that was put has arrived
not_finished : (w : State) (s : Side) (c : Channel) → IsQuiet w → (server w (other s) c).finished ≡ false → (client w s c).finished ≡ false
not_finished w A c q unfinished = finished_arrived c w.a (q.in_flight A) ∙ unfinished
not_finished w B c q unfinished = finished_arrived c w.b (q.in_flight B) ∙ unfinished

-- both events
record Goes (w : State) (s : Side) (c : Channel) (n : ℕ) : Type 0 where
  legal : IsLegal w (reissue s c n)
  held_is : held (client (after_all w (reissue s c n)) s c) ≡ held (client w s c) + n
  still_unfinished : (client (after_all w (reissue s c n)) s c).finished ≡ false

goes : (w : State) (s : Side) (c : Channel) (n : ℕ) → Good w → IsQuiet w → (client w s c).finished ≡ false → issue_refusal (server w (other s) c) n ≡ None → Goes w s c n
goes w A c n g q unfinished free =
    let e1 : Event = record { side = B; act = Issue c n } in
    let right1 : IsAnswer w e1 Accepted = inl (sym (ap judged free)) in
    let v : State = after w e1 Accepted in
    let gv : Good v = good_step w e1 Accepted right1 g in
    let one : v.b.in_flight ≡ frame.Issue c n ∷ [] = only_one w.b (frame.Issue c n) (q.in_flight B) in
    let right2 : IsAnswer v (record { side = A; act = Arrive }) Arrived = arrives v.capacity gv.small v.a v.b (frame.Issue c n) [] (sound_to_a v gv.sound) one in
    record { legal = (right1, (right2, tt)); held_is = more_held v.capacity c v.a v.b n unfinished (gv.sound.sums A c) one; still_unfinished = unfinished }
goes w B c n g q unfinished free =
    let e1 : Event = record { side = A; act = Issue c n } in
    let right1 : IsAnswer w e1 Accepted = inl (sym (ap judged free)) in
    let v : State = after w e1 Accepted in
    let gv : Good v = good_step w e1 Accepted right1 g in
    let one : v.a.in_flight ≡ frame.Issue c n ∷ [] = only_one w.a (frame.Issue c n) (q.in_flight A) in
    let right2 : IsAnswer v (record { side = B; act = Arrive }) Arrived = arrives v.capacity gv.small v.b v.a (frame.Issue c n) [] (sound_to_b v gv.sound) one in
    record { legal = (right1, (right2, tt)); held_is = more_held v.capacity c v.b v.a n unfinished (gv.sound.sums B c) one; still_unfinished = unfinished }

pub credit_comes_back : CreditComesBack
credit_comes_back capacity versions history h q s c dry unfinished some free total =
    let w : State = state_of capacity versions history in
    let n : ℕ = room (server w (other s) c) in
    let kept : w.capacity ≡ capacity = capacity_stays (opening capacity versions) history in
    let g : Good w = record { sound = sound_of capacity versions history h; small = omega (arith, h.is_capacity.at_most, kept) } in
    let both : Goes w s c n = goes w s c n g q (not_finished w s c q unfinished) (may_issue (server w (other s) c) n unfinished some free (omega arith) total) in
    let joined : History = history ++ reissue s c n in
    let v : State = state_of capacity versions joined in
    let same : v ≡ after_all w (reissue s c n) = after_append (opening capacity versions) history (reissue s c n) in
    let full : held (client v s c) ≡ capacity = ap (λ (x : State). held (client x s c)) same ∙ (both.held_is ∙ (whole_of w g.sound q s c dry ∙ kept)) in
    let still : (client v s c).finished ≡ false = ap (λ (x : State). (client x s c).finished) same ∙ both.still_unfinished in
    record {
      legal = record { is_capacity = h.is_capacity; legal = legal_append (opening capacity versions) history (reissue s c n) h.legal both.legal };
      full = full;
      sends = λ len one most unlimited. may_send (client v s c) len still one (omega (arith, most, ap max_body (version_kept capacity versions joined s))) unlimited (omega (arith, most, full));
    }
