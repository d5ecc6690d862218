-- The laws of two finished sessions.
use Rattle.std.proofs.Common.{◌≡◌, ℕ, ◌+◌, List, ◌++◌, length, Option, sym, ap, subst, ◌∙◌, arith}
use Rattle.std.specs.Prelude.{if◌then◌else◌, sum_by}
use Rattle.std.specs.List.{filter_map}
use Rattle.std.proofs.lemmas.List.Elements.{filter_map-append}
use Rattle.lc_frame.specs.declared.channel.Channel.{Channel}
use Rattle.lc_frame.specs.declared.frame.Frame.{Frame}
use Rattle.lc_frame.specs.Channel.{number_of}
use Rattle.lc_frame.specs.Stream.{messages, issued, finished}
use Rattle.lc_book.specs.Client.{Client, held, waived}
use Rattle.lc_book.specs.Server.{Server, outstanding}
use Rattle.lc_book.specs.Sums.{server_of}
use Rattle.lc_book.proofs.Lanes.{every_sum_is_of_its_lane}
use Rattle.lc_credit.specs.declared.balance.Balance.{Balance}
use Rattle.lc_inbox.specs.declared.rule.Key.{Key}
use Rattle.lc_inbox.specs.History.{book_after}
use Rattle.lc_world.specs.Guarantee.{FitsBuffer}
use Rattle.lc_interleaving.specs.Steps.{Step, put_of, put, heard, took}
use Rattle.lc_interleaving.specs.Interleaving.{Trace, Joint, a_step, b_step, of_a, of_b, IsOrderOf}
use Rattle.lc_interleaving.specs.History.{history_of}
use Rattle.lc_interleaving.specs.State.{IsStateOfBoth}
use Rattle.lc_interleaving.specs.Promises.{promised, in_flight, KeepsBetween}
use Rattle.lc_interleaving.specs.Finished.{Finished, IsFinished, trace, FitsRings}
use Rattle.lc_interleaving.specs.Sessions.{WereOne, ReportsAreAState, FinishedSessionsKeepPromises, NextFramesAreLawful, RefusedFramesAreBreaches}
use Rattle.lc_interleaving.proofs.Sides.{KeepsRules, book_is, book_lasting}
use Rattle.lc_interleaving.proofs.Between.{Keeps, last_client, last_server, left_over, may_all, state_of_both, took_is, last_keeps}
use Rattle.lc_interleaving.proofs.Books.{book_fits}
use Rattle.lc_interleaving.proofs.Lawful.{NextFrames, next_frames_after, refused_is_not_next, refused_by_credit}
use Rattle.lc_interleaving.proofs.Parts.{SenderAt, ReceiverAt, sender_of, receiver_of, KeepsAt, Sends, Serves, sends_at, serves_at, received_is, keeps_rules}

pub reports_are_a_state : ReportsAreAState
reports_are_a_state k a b fa fb order w = state_of_both k w.is_capacity (trace a fa) (trace b fb) (keeps_rules k a fa w.a_rings) (keeps_rules k b fb w.b_rings) order w.interleaving

-- the book of a channel, as `finish` gave it, is that of the session's trace
book_of_trace : (k : ℕ) (c : Channel) (t : Trace) (steps : List Step) (book : Server) (s : Serves k c (t.inbox c) book) → IsOrderOf t steps → book ≡ last_server s.receiving.key.capacity c t
book_of_trace k c t steps book s o =
    let key : Key = s.receiving.key in
    s.book_is
    ∙ (sym (book_lasting key (t.inbox c))
    ∙ (ap (book_after key) (sym (o.inboxes c))
    ∙ (book_is key c steps s.receiving.channel_is
    ∙ (ap (λ (fs : List Frame). server_of key.capacity c fs (heard steps) (sum_by length (took c steps))) o.put
    ∙ (ap (λ (fs : List Frame). server_of key.capacity c t.put fs (sum_by length (took c steps))) o.heard
    ∙ ap (λ (ms : List (List ℕ)). server_of key.capacity c t.put t.heard (sum_by length ms)) (took_is t steps c o))))))

-- one channel direction of two sessions
between : (k : ℕ) (c : Channel) (x y : Finished) (fx : IsFinished x) (fy : IsFinished y) → FitsRings k x → FitsRings k y → (steps : List Step) → IsOrderOf (trace y fy) steps → Keeps k c (trace x fx) (trace y fy) → KeepsBetween c x y (trace x fx) (trace y fy)
between k c x y fx fy rx ry steps o keeps =
    let sends : KeepsAt (Sends (trace x fx).version (trace x fx).put) c ((trace x fx).credit c) x.clients (number_of c) = sends_at k x fx rx c in
    let serves : KeepsAt (Serves k) c ((trace y fy).inbox c) y.servers (number_of c) = serves_at k y fy ry c in
    let b : Balance = sends.other in
    let book : Server = serves.other in
    let key : Key = serves.keeps.receiving.key in
    let is : book ≡ last_server key.capacity c (trace y fy) = book_of_trace k c (trace y fy) steps book serves.keeps o in
    let capacity_is : book.capacity ≡ key.capacity = ap (λ (s : Server). s.capacity) is in
    let fits : FitsBuffer book.capacity book = subst (λ (n : ℕ). FitsBuffer n book) (sym capacity_is) (subst (λ (s : Server). FitsBuffer key.capacity s) (sym serves.keeps.book_is) (book_fits key ((trace y fy).inbox c) serves.keeps.receiving.legal serves.keeps.ordered)) in
    let received : b.received ≡ issued c (trace x fx).heard = received_is k x fx rx c in
    let client : Client = last_client c (trace x fx) in
    let promises : held client + waived client + in_flight c (trace x fx) (trace y fy) ≡ b.held + b.waived + in_flight c (trace x fx) (trace y fy) = omega (arith, left_over client, received, sends.keeps.spent_is, sends.keeps.absolved_is, sends.keeps.adds_up) in
    let somewhere : outstanding book ≡ promised c (trace x fx) (trace y fy) b = ap outstanding is ∙ (keeps.somewhere ∙ ap (λ (n : ℕ). if finished c (trace y fy).heard then 0 else n) promises) in
    let sender : SenderAt (trace x fx).put c x.session.sending (number_of c) = sender_of x fx c in
    let receiver : ReceiverAt ((trace y fy).inbox c) y.session.receiving (number_of c) = receiver_of y fy c in
    let sent_is : messages c (trace x fx).put ≡ messages c sender.end.lane.put = sym ((every_sum_is_of_its_lane c (trace x fx).put).messages_are) ∙ ap (messages c) sender.gave in
    record {
      sender = sender.end;
      receiver = receiver.end;
      sender_there = sender.there;
      receiver_there = receiver.there;
      balance = b;
      book = book;
      balance_there = sends.there;
      book_there = serves.there;
      in_order = (keeps.in_order.0, ap (λ (ms : List (List ℕ)). ms ++ keeps.in_order.0) (sym receiver.took_is) ∙ (keeps.in_order.1 ∙ sent_is));
      adds_up = record { received_is = received; spent_is = sends.keeps.spent_is; absolved_is = sends.keeps.absolved_is; held_is = sends.keeps.held_is; waived_is = sends.keeps.waived_is; adds_up = sends.keeps.adds_up };
      fits = fits;
      somewhere = somewhere;
      conserved = omega (arith, somewhere, fits.fits);
    }

pub finished_sessions_keep_promises : FinishedSessionsKeepPromises
finished_sessions_keep_promises k a b fa fb order w =
    let s : IsStateOfBoth k (trace a fa) (trace b fb) (history_of order) = reports_are_a_state k a b fa fb order w in
    record {
      a_sends = λ c. between k c a b fa fb w.a_rings w.b_rings (of_b order) w.interleaving.b_order (last_keeps k (trace a fa) (trace b fb) (history_of order) c s).0;
      b_sends = λ c. between k c b a fb fa w.b_rings w.a_rings (of_a order) w.interleaving.a_order (last_keeps k (trace a fa) (trace b fb) (history_of order) c s).1;
    }

next_frames : (k : ℕ) (a b : Finished) (fa : IsFinished a) (fb : IsFinished b) (order : List Joint) → WereOne k a b fa fb order → (earlier later : List Joint) → order ≡ earlier ++ later → NextFrames k (trace a fa) (trace b fb) earlier
next_frames k a b fa fb order w earlier later is = next_frames_after k (trace a fa) (trace b fb) order earlier later w.is_capacity.at_most is (may_all k w.is_capacity (trace a fa) (trace b fb) (keeps_rules k a fa w.a_rings) (keeps_rules k b fb w.b_rings) order w.interleaving)

pub next_frames_are_lawful : NextFramesAreLawful
next_frames_are_lawful k a b fa fb order w earlier later is = (next_frames k a b fa fb order w earlier later is).are_lawful

-- what a side had put at a moment of the order is how what it put begins
begins_put : (t : Trace) (step_of : Joint → Option Step) (order earlier later : List Joint) → put (filter_map step_of order) ≡ t.put → order ≡ earlier ++ later → t.put ≡ put (filter_map step_of earlier) ++ put (filter_map step_of later)
begins_put t step_of order earlier later all is =
    sym all
    ∙ (ap (λ (js : List Joint). put (filter_map step_of js)) is
    ∙ (ap put (filter_map-append step_of earlier later)
    ∙ filter_map-append put_of (filter_map step_of earlier) (filter_map step_of later)))

pub refused_frames_are_breaches : RefusedFramesAreBreaches
refused_frames_are_breaches k a b fa fb order w earlier later is =
    let next : NextFrames k (trace a fa) (trace b fb) earlier = next_frames k a b fa fb order w earlier later is in
    let small = w.is_capacity.at_most in
    let a_keeps : KeepsRules k (trace a fa) = keeps_rules k a fa w.a_rings in
    let b_keeps : KeepsRules k (trace b fb) = keeps_rules k b fb w.b_rings in
    record {
      at_a = refused_is_not_next k (trace a fa).version (trace a fa) (of_a earlier) (of_b earlier) a_keeps.receiving next.are_lawful.at_a;
      at_b = refused_is_not_next k (trace b fb).version (trace b fb) (of_b earlier) (of_a earlier) b_keeps.receiving next.are_lawful.at_b;
      a_credits = refused_by_credit k (trace a fa) (of_a earlier) (of_b earlier) (put (of_a later)) small a_keeps.sending (begins_put (trace a fa) a_step order earlier later w.interleaving.a_order.put is) next.a_covered next.are_lawful.at_a;
      b_credits = refused_by_credit k (trace b fb) (of_b earlier) (of_a earlier) (put (of_b later)) small b_keeps.sending (begins_put (trace b fb) b_step order earlier later w.interleaving.b_order.put is) next.b_covered next.are_lawful.at_b;
    }
