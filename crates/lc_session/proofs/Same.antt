-- Parts of a session that stay of it, through calls and runs, and when threads give them back.
use Rattle.std.proofs.Common.{◌≡◌, ℕ, ◌+◌, List, [], ◌∷◌, map, Option, Some, None, refl, sym, ap, subst, ◌∙◌}
use Rattle.std.specs.Prelude.{IfSome}
use Rattle.std.specs.List.{All, AllZip}
use Rattle.std.proofs.lemmas.List.Elements.{All-cons, All-head, All-nil, All-tail}
use Rattle.lc_frame.specs.Stored.{Stored}
use Rattle.lc_frame.specs.declared.frame.Frame.{Frame}
use Rattle.lc_frame.specs.Channel.{channel_count, number_of}
use Rattle.lc_book.specs.declared.fault.Violation.{Violation}
use Rattle.lc_peer.specs.declared.delivery.Stop.{Stop}
use Rattle.lc_peer.specs.Deliveries.{violation_of}
use Rattle.lc_peer.specs.Sinks.{AllArrive, IsNext}
use Rattle.lc_queue.specs.Parts.{Outlet}
use Rattle.lc_credit.specs.Channels.{credit_out}
use Rattle.lc_inbox.specs.declared.rule.Key.{Key}
use Rattle.lc_inbox.specs.Sides.{InboxId, InboxSide, IsSameSide}
use Rattle.lc_inbox.specs.Inboxes.{origin_of, AreSameSides}
use Rattle.lc_inbox.proofs.Places.{matched_in, matched_out}
use Rattle.lc_outbox.specs.Outbox.{OutboxState, IsSameOutbox}
use Rattle.lc_driver.specs.declared.reading.ReadEnd.{ReadEnd}
use Rattle.lc_peer.specs.Intake.{IntakeState}
use Rattle.lc_driver.specs.Reading.{ReadsInto, stop_of, end_of}
use Rattle.lc_session.specs.Pumping.{Pumping, Pumps, IsSamePump}
use Rattle.lc_session.specs.Reading.{ReadingSide, channel_of_side, Arrives, Violates, IsSameReading}
use Rattle.lc_session.specs.Report.{channel_of_outbox, credit_of_outbox, PutsOn, ServesOn}
use Rattle.lc_session.specs.Same.{SessionsStay}
use Rattle.lc_session.specs.Keeps.{arrives_same, violates_same}

-- ---- one part, after nothing and after one call and another

pub outbox_itself : (o : OutboxState) → IsSameOutbox o o
outbox_itself o = record { channel = refl; lane = (refl, refl, refl); credit = refl }

pub outbox_then : (a b c : OutboxState) → IsSameOutbox a b → IsSameOutbox b c → IsSameOutbox a c
outbox_then a b c p q = record { channel = q.channel ∙ p.channel; lane = (q.lane.0 ∙ p.lane.0, q.lane.1 ∙ p.lane.1, q.lane.2 ∙ p.lane.2); credit = q.credit ∙ p.credit }

pub side_itself : (s : InboxSide) → IsSameSide s s
side_itself s = record { inbox = refl; key = refl }

pub side_then : (a b c : InboxSide) → IsSameSide a b → IsSameSide b c → IsSameSide a c
side_then a b c p q = record { inbox = q.inbox ∙ p.inbox; key = q.key ∙ p.key }

pub reading_itself : (r : ReadingSide) → IsSameReading r r
reading_itself r = record { credits = refl; inboxes = refl }

pub reading_then : (a b c : ReadingSide) → IsSameReading a b → IsSameReading b c → IsSameReading a c
reading_then a b c p q = record { credits = q.credits ∙ p.credits; inboxes = q.inboxes ∙ p.inboxes }

pub pump_itself : (p : Pumping) → IsSamePump p p
pump_itself p = (refl, refl)

pub pump_then : (a b c : Pumping) → IsSamePump a b → IsSamePump b c → IsSamePump a c
pump_then a b c p q = (q.0 ∙ p.0, q.1 ∙ p.1)

-- ---- and after a run

all_same : (frames : List Frame) (old new : ReadingSide) → AllArrive Arrives old frames new → IsSameReading old new
all_same [] old new is = subst (IsSameReading old) (sym is) (reading_itself old)
all_same (f ∷ frames) old new is = reading_then old is.0 new (arrives_same old is.0 f is.1) (all_same frames is.0 new is.2)

next_same : (violation : Option Violation) (old new : ReadingSide) (frames : List Frame) (count : ℕ) → IsNext Violates violation old frames count new → IsSameReading old new
next_same None old new frames count is = subst (IsSameReading old) (sym is.1) (reading_itself old)
next_same (Some v) old new frames count is = violates_same v old new is.0 is.2

read_same : (before after : Option (List ℕ)) (held : Stored) (old : ReadingSide) (intake : IntakeState) (new : ReadingSide) (max_reads : ℕ) (end : ReadEnd) → ReadsInto Arrives Violates before after held old intake new max_reads end → IsSameReading old new
read_same before after held old intake new max_reads end run =
    reading_then old run.came.at new (all_same _ old run.came.at run.came.arrived) (next_same (violation_of (stop_of end)) run.came.at new _ run.frames run.came.next)

-- a stream that was given up leaves all as it was
pub run_same : {D : Type 0} (stop : Option Stop) (reader reader' : D) (before after : Option (List ℕ)) (held : Stored) (old : ReadingSide) (was intake : IntakeState) (new : ReadingSide) (max_reads : ℕ) (end : ReadEnd)
    → IfSome stop (λ s. (end ≡ end_of s) × (new ≡ old) × (reader' ≡ reader) × (intake ≡ was)) → (stop ≡ None → ReadsInto Arrives Violates before after held old intake new max_reads end) → IsSameReading old new
run_same None reader reader' before after held old was intake new max_reads end given reads = read_same before after held old intake new max_reads end (reads refl)
run_same (Some s) reader reader' before after held old was intake new max_reads end given reads = subst (IsSameReading old) (sym given.1) (reading_itself old)

pub same_pump : (before after : Option (List ℕ)) (p q : Pumping) → Pumps before after p q → IsSamePump p q
same_pump before after p q h = (ap (λ (o : Outlet). o.queue) h.drain, ap (λ (o : Outlet). o.version) h.drain)

-- ---- all parts

zip_keeps : {A B : Type 0} (f : A → B) (R : A → A → Type 0) (xs ys : List A) → ((x y : A) → R x y → f y ≡ f x) → AllZip R xs ys → map f ys ≡ map f xs
zip_keeps f R [] [] same all = refl
zip_keeps f R [] (y ∷ ys) same all = absurd all
zip_keeps f R (x ∷ xs) [] same all = absurd all
zip_keeps f R (x ∷ xs) (y ∷ ys) same all = let here = same x y all.0 in let later = zip_keeps f R xs ys same all.1 in (λ i. here i ∷ later i)

zip_all : {A : Type 0} (P Q : A → Type 0) (R : A → A → Type 0) (xs ys : List A) → ((x y : A) → R x y → P x → Q y) → AllZip R xs ys → All P xs → All Q ys
zip_all P Q R [] [] step zip all = All-nil Q
zip_all P Q R [] (y ∷ ys) step zip all = absurd zip
zip_all P Q R (x ∷ xs) [] step zip all = absurd zip
zip_all P Q R (x ∷ xs) (y ∷ ys) step zip all = All-cons Q y ys (step x y zip.0 (All-head P x xs all)) (zip_all P Q R xs ys step zip.1 (All-tail P x xs all))

-- sides that stay of their inboxes, place by place
sides_zip : (old new : List InboxSide) → AreSameSides old new → AllZip IsSameSide old new
sides_zip [] [] same = tt
sides_zip [] (s ∷ new) same = absurd (cc)
sides_zip (s ∷ old) [] same = absurd (cc)
sides_zip (s ∷ old) (t ∷ new) same =
    let both : origin_of t ≡ origin_of s = cc in
    (record { inbox = ap (λ (o : InboxId × Key). o.0) both; key = ap (λ (o : InboxId × Key). o.1) both }, sides_zip old new (cc))

zip_sides : (old new : List InboxSide) → AllZip IsSameSide old new → AreSameSides old new
zip_sides old new all = zip_keeps origin_of IsSameSide old new (λ s t one. (λ i. (one.inbox i, one.key i))) all

credits_stay : (old new : List OutboxState) → AllZip IsSameOutbox old new → map credit_out (map credit_of_outbox new) ≡ map credit_out (map credit_of_outbox old)
credits_stay [] [] all = refl
credits_stay [] (o ∷ new) all = absurd all
credits_stay (o ∷ old) [] all = absurd all
credits_stay (o ∷ old) (n ∷ new) all = let here = all.0.credit in let later = credits_stay old new all.1 in (λ i. here i ∷ later i)

still_puts : (p q : Pumping) → IsSamePump p q → (o n : OutboxState) → IsSameOutbox o n → PutsOn p.drain.queue p.drain.version o → PutsOn q.drain.queue q.drain.version n
still_puts p q same o n one puts = record {
  queue_is = same.0 ∙ puts.queue_is ∙ sym one.lane.0;
  version_is = one.lane.2 ∙ puts.version_is ∙ sym same.1;
}

still_serves : (p q : Pumping) → IsSamePump p q → (s t : InboxSide) → IsSameSide s t → ServesOn p.drain.queue p.drain.version s → ServesOn q.drain.queue q.drain.version t
still_serves p q same s t one serves = record {
  queue_is = same.0 ∙ serves.queue_is ∙ ap (λ (k : Key). k.lane.value.queue) (sym one.key);
  version_is = ap (λ (k : Key). k.lane.value.version) one.key ∙ serves.version_is ∙ sym same.1;
  lane_is = ap (λ (k : Key). k.lane.value.lane) one.key ∙ serves.lane_is ∙ ap (λ (k : Key). channel_count + number_of k.channel) (sym one.key);
}

pub session_stays : SessionsStay
session_stays old new one same =
    let sides = sides_zip old.reading.side.inboxes new.reading.side.inboxes same.reading.inboxes in
    let was : Outlet = old.writing.drain in
    let is : Outlet = new.writing.drain in
    record {
      senders = zip_keeps channel_of_outbox IsSameOutbox old.sending new.sending (λ o n stays. stays.channel) same.sending ∙ one.senders;
      receivers = zip_keeps channel_of_side IsSameSide old.reading.side.inboxes new.reading.side.inboxes (λ s t stays. ap (λ (k : Key). k.channel) stays.key) sides ∙ one.receivers;
      clients_put = zip_all (PutsOn was.queue was.version) (PutsOn is.queue is.version) IsSameOutbox old.sending new.sending (still_puts old.writing new.writing same.writing) same.sending one.clients_put;
      servers_put = zip_all (ServesOn was.queue was.version) (ServesOn is.queue is.version) IsSameSide old.reading.side.inboxes new.reading.side.inboxes (still_serves old.writing new.writing same.writing) sides one.servers_put;
      credits_match = same.reading.credits ∙ one.credits_match ∙ sym (credits_stay old.sending new.sending same.sending);
      inboxes_match = matched_out new.reading.side.inboxes old.receiving new.receiving (zip_sides old.receiving new.receiving same.receiving)
          (matched_in old.reading.side.inboxes new.reading.side.inboxes old.receiving same.reading.inboxes one.inboxes_match);
    }
