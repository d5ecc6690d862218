-- The next frame of a stream is lawful where it arrives, and a frame that was refused is not the next.
use Rattle.std.proofs.Common.{◌≡◌, ℕ, ◌+◌, ◌<◌, ◌≤◌, Bool, true, false, List, [], ◌∷◌, ◌++◌, Option, Some, None, refl, sym, ap, subst, ◌∙◌, arith}
use Rattle.std.specs.Prelude.{◌==◌, nat_lt, if◌then◌else◌, sum}
use Rattle.std.proofs.lemmas.Bool.Decides.{nat_tests}
use Rattle.std.proofs.lemmas.List.Elements.{filter-append, filter_map-append}
use Rattle.std.proofs.lemmas.List.Sums.{sum_by-append}
use Rattle.lc_history.specs.History.{IsHistoryAfter, IsHistory}
use Rattle.lc_history.proofs.Histories.{follows_each}
use Rattle.lc_frame.specs.declared.version.Version.{Version}
use Rattle.lc_frame.specs.declared.channel.Channel.{Channel}
use Rattle.lc_frame.specs.declared.frame.Frame.{Frame}
use Rattle.lc_frame.specs.declared.frame.Frame.TheVariants.{Send, Issue, Absolve, Plead, LimitSending, LimitReceiving, Finish}
use Rattle.lc_frame.specs.Channel.{number_of}
use Rattle.lc_frame.specs.Frame.{channel_of, lane_of}
use Rattle.lc_frame.specs.Kind.{max_amount, max_total}
use Rattle.lc_frame.specs.Stream.{of_lane, cost, issued, absolved}
use Rattle.lc_frame.proofs.Channels.{same_from_number}
use Rattle.lc_frame.proofs.Measures.{issued-one, issued-append}
use Rattle.lc_book.specs.declared.fault.Violation.{Violation}
use Rattle.lc_book.specs.declared.fault.Violation.TheVariants.{IssuedPastLimit, TooManyGuarantees, TotalPassed, ReceiveLimitRaised}
use Rattle.lc_book.specs.Limit.{is_past}
use Rattle.lc_book.specs.Client.{held, issued_violation}
use Rattle.lc_book.specs.Server.{Server}
use Rattle.lc_book.specs.Sums.{client_of, SumsAreOfLanes}
use Rattle.lc_book.proofs.Lanes.{every_sum_is_of_its_lane}
use Rattle.lc_credit.specs.declared.history.Entry as credit
use Rattle.lc_credit.specs.History as credits
use Rattle.lc_credit.specs.History.{used, returned}
use Rattle.lc_credit.specs.Sides.{Incoming, IsNotAdded}
use Rattle.lc_credit.proofs.Histories.{learned_received}
use Rattle.lc_outbox.specs.Uses.{uses, amounts}
use Rattle.lc_outbox.specs.Outbox.{MayPut}
use Rattle.lc_peer.specs.Arrivals.{violation}
use Rattle.lc_inbox.specs.declared.history.Entry.TheVariants.{Refused}
use Rattle.lc_inbox.specs.Ends.{violation_of}
use Rattle.lc_inbox.specs.History as inboxes
use Rattle.lc_inbox.specs.History.{book_after}
use Rattle.lc_world.specs.declared.event.Side.TheVariants.{A, B}
use Rattle.lc_world.specs.State.{State, Versions, Line, opening, stream, kept_plead, server_book}
use Rattle.lc_world.specs.Answers.{after}
use Rattle.lc_world.specs.Histories.{History, after_all}
use Rattle.lc_world.specs.Guarantee.{state_of}
use Rattle.lc_world.specs.Sound.{Sound}
use Rattle.lc_world.proofs.Sound.{cost-cut, issued-cut, absolved-cut, taken_cost}
use Rattle.lc_world.proofs.Steps.{same_capacity}
use Rattle.lc_world.proofs.Lawful.{SoundTo, no_violation, sound_to_a, sound_to_b}
use Rattle.lc_interleaving.specs.Steps.{Step, put, heard, client_then, server_then}
use Rattle.lc_interleaving.specs.Interleaving.{Trace, Joint, a_step, b_step, of_a, of_b, IsNext, IsCausal}
use Rattle.lc_interleaving.specs.History.{history_of}
use Rattle.lc_interleaving.specs.State.{versions_of}
use Rattle.lc_interleaving.specs.Lawful.{NextIsLawful, IsLawfulAfter, RefusedIsNotNext, IsCreditThen, RefusedByCredit}
use Rattle.lc_interleaving.proofs.Books.{later_reason}
use Rattle.lc_interleaving.proofs.Cuts.{begins_after}
use Rattle.lc_interleaving.proofs.Lines.{MayStep, IsLineOf, StandsFor, MayStepAll, first_in_flight, server_is, whole}
use Rattle.lc_interleaving.proofs.Paid.{uses_stand}
use Rattle.lc_interleaving.proofs.Sides.{KeepsSending, KeepsReceiving, sums_to, book_is, book_lasting}

-- which plead is kept does not matter
no_plead : (version : Version) (c : Channel) (put heard : List Frame) (asked : Option ℕ) (server : Server) (f : Frame) → violation (client_of version c put heard None) server f ≡ violation (client_of version c put heard asked) server f
no_plead version c put heard asked server (Send d body) = refl
no_plead version c put heard asked server (Issue d n) = refl
no_plead version c put heard asked server (Absolve d n) = refl
no_plead version c put heard asked server (Plead d n) = refl
no_plead version c put heard asked server (LimitSending d n) = refl
no_plead version c put heard asked server (LimitReceiving d n) = refl
no_plead version c put heard asked server (Finish d) = refl

next_is_lawful : (v w : Version) (capacity : ℕ) → capacity ≤ max_amount → (mine theirs : Line) (me peer : List Step) → SoundTo capacity mine theirs → IsLineOf v mine me peer → IsLineOf w theirs peer me → NextIsLawful capacity v me peer
next_is_lawful v w capacity small mine theirs me peer sound m t f next =
    let c : Channel = channel_of f in
    let first : theirs.in_flight ≡ f ∷ next.0 = first_in_flight theirs (put peer) (heard me) f next.0 t.put t.heard next.1 in
    ap (λ (x : Version). violation (client_of x c (put me) (heard me) None) (server_then capacity c me) f) (sym m.is_version)
    ∙ (ap (λ (fs : List Frame). violation (client_of mine.version c fs (heard me) None) (server_then capacity c me) f) (sym m.put)
    ∙ (ap (λ (fs : List Frame). violation (client_of mine.version c (stream mine) fs None) (server_then capacity c me) f) (sym t.heard)
    ∙ (ap (λ (b : Server). violation (client_of mine.version c (stream mine) theirs.arrived None) b f) (sym (server_is capacity mine theirs me peer m t c))
    ∙ (no_plead mine.version c (stream mine) theirs.arrived (kept_plead c theirs) (server_book capacity c mine theirs) f
    ∙ no_violation capacity small mine theirs sound f next.0 first))))

-- all that a client has received when it hears a next issue, that issue too, is no more than the ring and what it has put of messages and absolvings
abbrev pub NextIsCovered : ℕ → List Step → List Step → Type 0
NextIsCovered capacity here there = (c : Channel) (n : ℕ) → IsNext there here (Issue c n) → issued c (heard here) + n ≤ capacity + cost c (put here) + absolved c (put here)

next_is_covered : {v w : Version} (capacity : ℕ) (mine theirs : Line) (me peer : List Step) → SoundTo capacity mine theirs → IsLineOf v mine me peer → IsLineOf w theirs peer me → NextIsCovered capacity me peer
next_is_covered capacity mine theirs me peer sound m t c n next =
    let f : Frame = Issue c n in
    let first : theirs.in_flight ≡ f ∷ next.0 = first_in_flight theirs (put peer) (heard me) f next.0 t.put t.heard next.1 in
    let s : Sound capacity c mine theirs = sound.as_client c in
    omega (
      arith,
      s.roomy,
      taken_cost c mine,
      cost-cut c mine,
      absolved-cut c mine,
      issued-cut c theirs,
      ap (issued c) first,
      issued-append c (f ∷ []) next.0,
      issued-one f,
      ap (issued c) t.heard,
      ap (cost c) m.put,
      ap (absolved c) m.put,
    )

-- what both sides know of the next frames
pub record NextFrames (capacity : ℕ) (a b : Trace) (earlier : List Joint) : Type 0 where
  pub are_lawful : IsLawfulAfter capacity a b earlier
  pub a_covered : NextIsCovered capacity (of_a earlier) (of_b earlier)
  pub b_covered : NextIsCovered capacity (of_b earlier) (of_a earlier)

-- no history changes the capacity
capacity_stays : (w : State) (history : History) → (after_all w history).capacity ≡ w.capacity
capacity_stays w [] = refl
capacity_stays w (p ∷ history) = capacity_stays (after w p.0 p.1) history ∙ same_capacity w p.0.side p.0.act p.1

next_frames : (capacity : ℕ) (a b : Trace) (order : List Joint) → capacity ≤ max_amount → MayStepAll capacity (versions_of a b) order → NextFrames capacity a b order
next_frames capacity a b order small may =
    let versions = versions_of a b in
    let w : State = state_of capacity versions (history_of order) in
    let s : StandsFor a.version b.version w (of_a order) (of_b order) = (whole capacity versions order small may).stands in
    let e : w.capacity ≡ capacity = capacity_stays (opening capacity versions) (history_of order) in
    let to_a : SoundTo capacity w.a w.b = subst (λ (n : ℕ). SoundTo n w.a w.b) e (sound_to_a w s.sound) in
    let to_b : SoundTo capacity w.b w.a = subst (λ (n : ℕ). SoundTo n w.b w.a) e (sound_to_b w s.sound) in
    record {
      are_lawful = record {
        at_a = next_is_lawful a.version b.version capacity small w.a w.b (of_a order) (of_b order) to_a s.a_line s.b_line;
        at_b = next_is_lawful b.version a.version capacity small w.b w.a (of_b order) (of_a order) to_b s.b_line s.a_line;
      };
      a_covered = next_is_covered capacity w.a w.b (of_a order) (of_b order) to_a s.a_line s.b_line;
      b_covered = next_is_covered capacity w.b w.a (of_b order) (of_a order) to_b s.b_line s.a_line;
    }

-- as the beginning of an order is one, so it is at each moment
begins : (capacity : ℕ) (versions : Versions) (order earlier later : List Joint) → order ≡ earlier ++ later → MayStepAll capacity versions order → MayStepAll capacity versions earlier
begins capacity versions order earlier later is may = record {
  a_may = begins_after (MayStep capacity (versions A)) [] (of_a earlier) (of_a later) (subst (λ (xs : List Step). IsHistoryAfter (MayStep capacity (versions A)) [] xs) (ap of_a is ∙ filter_map-append a_step earlier later) may.a_may);
  b_may = begins_after (MayStep capacity (versions B)) [] (of_b earlier) (of_b later) (subst (λ (xs : List Step). IsHistoryAfter (MayStep capacity (versions B)) [] xs) (ap of_b is ∙ filter_map-append b_step earlier later) may.b_may);
  causal = begins_after IsCausal [] earlier later (subst (λ (js : List Joint). IsHistoryAfter IsCausal [] js) is may.causal);
}

pub next_frames_after : (capacity : ℕ) (a b : Trace) (order earlier later : List Joint) → capacity ≤ max_amount → order ≡ earlier ++ later → MayStepAll capacity (versions_of a b) order → NextFrames capacity a b earlier
next_frames_after capacity a b order earlier later small is may = next_frames capacity a b earlier small (begins capacity (versions_of a b) order earlier later is may)

-- what an inbox refuses, the books of its side refuse
refused_by : (version : Version) (c : Channel) (k n : ℕ) (here : List Step) (f : Frame) (v : Violation) → lane_of f ≡ number_of c → violation_of f (server_then k c here) ≡ Some v → violation (client_then version (channel_of f) here) (server_then n (channel_of f) here) f ≡ None → ⊥
refused_by version c k n here (Send d body) v lane e none = let same : d ≡ c = same_from_number d c lane in let some : violation_of (Send d body) (server_then k d here) ≡ Some v = subst (λ (x : Channel). violation_of (Send d body) (server_then k x here) ≡ Some v) (sym same) e in absurd (cc)
refused_by version c k n here (Absolve d m) v lane e none = let same : d ≡ c = same_from_number d c lane in let some : violation_of (Absolve d m) (server_then k d here) ≡ Some v = subst (λ (x : Channel). violation_of (Absolve d m) (server_then k x here) ≡ Some v) (sym same) e in absurd (cc)
refused_by version c k n here (LimitSending d m) v lane e none = let same : d ≡ c = same_from_number d c lane in let some : violation_of (LimitSending d m) (server_then k d here) ≡ Some v = subst (λ (x : Channel). violation_of (LimitSending d m) (server_then k x here) ≡ Some v) (sym same) e in absurd (cc)
refused_by version c k n here (Finish d) v lane e none = let same : d ≡ c = same_from_number d c lane in let some : violation_of (Finish d) (server_then k d here) ≡ Some v = subst (λ (x : Channel). violation_of (Finish d) (server_then k x here) ≡ Some v) (sym same) e in absurd (cc)
refused_by version c k n here (Issue d m) v lane e none = absurd (cc)
refused_by version c k n here (Plead d m) v lane e none = absurd (cc)
refused_by version c k n here (LimitReceiving d m) v lane e none = absurd (cc)

pub refused_is_not_next : (capacity : ℕ) (version : Version) (t : Trace) (here there : List Step) → ((c : Channel) → KeepsReceiving capacity c (t.inbox c)) → NextIsLawful capacity version here there → RefusedIsNotNext t here there
refused_is_not_next capacity version t here there receiving next c before later f is so_far first =
    let r : KeepsReceiving capacity c (t.inbox c) = receiving c in
    let may : inboxes.MayFollow r.key before (Refused f) = follows_each (inboxes.MayFollow r.key) (t.inbox c) before (Refused f) later r.legal is in
    let book : server_then r.key.capacity c here ≡ book_after r.key before = sym (book_is r.key c here r.channel_is) ∙ (ap (book_after r.key) so_far ∙ book_lasting r.key before) in
    refused_by version c r.key.capacity capacity here f may.1.0 (may.0 ∙ ap number_of r.channel_is) (ap (violation_of f) book ∙ may.1.1) (next f first)

-- what a credit refuses, the books of its side refuse, or no ring has room for
no_reason : {E : Type 0} (b : Bool) (r : E) (x : Option E) → b ≡ true → (if b then Some r else x) ≡ None → ⊥
no_reason true r x is e = cc
no_reason false r x is e = cc

beyond : (most n : ℕ) → most < n → nat_lt most n ≡ true
beyond most n more = grind (arith, nat_tests, more)

-- what a client had put by a moment had been paid by then
paid_then : (t : Trace) (c : Channel) (here : List Step) (behind : List Frame) (old new : Incoming) → KeepsSending t.version c (t.credit c) (of_lane (number_of c) t.put) → t.put ≡ put here ++ behind → IsCreditThen t c here old new → cost c (put here) + absolved c (put here) + returned new.seen ≤ used new.seen
paid_then t c here behind old new s cut is =
    let mine : List Frame = of_lane (number_of c) (put here) in
    let later : List Frame = of_lane (number_of c) behind in
    let lane_cut : of_lane (number_of c) t.put ≡ mine ++ later = ap (of_lane (number_of c)) cut ∙ filter-append (λ (f : Frame). lane_of f == number_of c) (put here) behind in
    let begun : IsHistory (MayPut t.version c) mine = begins_after (MayPut t.version c) [] mine later (subst (λ (fs : List Frame). IsHistory (MayPut t.version c) fs) lane_cut s.rules) in
    let legal : credits.IsHistory new.seen = begins_after credits.MayFollow [] new.seen is.begins.0 (subst (λ (h : List credit.Entry). credits.IsHistory h) is.begins.1 s.legal) in
    let p : SumsAreOfLanes c (put here) = every_sum_is_of_its_lane c (put here) in
    let stand : sum (uses new.seen) ≡ sum (amounts mine) + sum is.paid.0 = ap sum is.paid.1 ∙ sum_by-append (λ n. n) (amounts mine) is.paid.0 in
    omega (arith, sums_to t.version c [] mine begun, p.cost_is, p.absolved_is, stand, uses_stand new.seen legal)

issue_refused : (capacity : ℕ) (t : Trace) (c : Channel) (n : ℕ) (v : Violation) (here : List Step) (behind : List Frame) (old new : Incoming) → capacity ≤ max_amount → KeepsSending t.version c (t.credit c) (of_lane (number_of c) t.put) → t.put ≡ put here ++ behind → issued c (heard here) + n ≤ capacity + cost c (put here) + absolved c (put here) → IsNotAdded v n old new → IsCreditThen t c here old new → issued_violation (client_then t.version c here) n ≡ None → ⊥
issue_refused capacity t c n IssuedPastLimit here behind old new small s cut covered refused is none = no_reason (is_past (client_then t.version c here).receive_left n) IssuedPastLimit _ (ap (λ (o : Option ℕ). is_past o n) (sym is.left_is) ∙ refused.past) none
issue_refused capacity t c n TooManyGuarantees here behind old new small s cut covered refused is none =
    let room = refused.1 in
    omega (arith, small, covered, room.loads.held, room.over, learned_received old.seen new.seen room.loads.learns, is.is_incoming.counted, is.received_is, paid_then t c here behind old new s cut is)
issue_refused capacity t c n TotalPassed here behind old new small s cut covered refused is none =
    let over = refused.2 in
    no_reason (nat_lt max_total ((client_then t.version c here).received + n)) TotalPassed _ (beyond max_total ((client_then t.version c here).received + n) (omega (arith, over, is.received_is)))
    (later_reason (nat_lt max_amount (held (client_then t.version c here) + n)) TooManyGuarantees _ (later_reason (is_past (client_then t.version c here).receive_left n) IssuedPastLimit _ none))
issue_refused capacity t c n v here behind old new small s cut covered refused is none = absurd refused

pub refused_by_credit : (capacity : ℕ) (t : Trace) (here there : List Step) (behind : List Frame) → capacity ≤ max_amount → ((c : Channel) → KeepsSending t.version c (t.credit c) (of_lane (number_of c) t.put)) → t.put ≡ put here ++ behind → NextIsCovered capacity here there → NextIsLawful capacity t.version here there → RefusedByCredit t here there
refused_by_credit capacity t here there behind small sending cut covered next = record {
  issue = λ c n v old new refused is first. issue_refused capacity t c n v here behind old new small (sending c) cut (covered c n first) refused is (next (Issue c n) first);
  limit = λ c bound old new refused left first. no_reason (is_past (client_then t.version c here).receive_left bound) ReceiveLimitRaised None (ap (λ (o : Option ℕ). is_past o bound) (sym left) ∙ refused.past) (next (LimitReceiving c bound) first);
}
