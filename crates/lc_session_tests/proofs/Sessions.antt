-- Parts of a session of which some changed, and stay of it.
use Rattle.std.proofs.Common.{◌≡◌, ℕ, zero, suc, ◌<◌, List, [], ◌∷◌, length, get_or, set, arith}
use Rattle.std.specs.List.{AllZip}
use Rattle.lc_inbox.specs.Sides.{InboxSide, IsSameSide}
use Rattle.lc_outbox.specs.Outbox.{OutboxState, IsSameOutbox}
use Rattle.lc_session.specs.Pumping.{Pumping, IsSamePump}
use Rattle.lc_session.specs.Reading.{Reading, IsSameReading}
use Rattle.lc_session.specs.Report.{SessionState, AreOfOneSession}
use Rattle.lc_session.proofs.Same.{outbox_itself, side_itself, reading_itself, pump_itself, session_stays}

zip_itself : {A : Type 0} (R : A → A → Type 0) → ((x : A) → R x x) → (xs : List A) → AllZip R xs xs
zip_itself R same [] = tt
zip_itself R same (x ∷ xs) = (same x, zip_itself R same xs)

-- where one place changed
zip_set : {A : Type 0} (R : A → A → Type 0) → ((x : A) → R x x) → (xs : List A) (at : ℕ) (other now : A) → R (get_or xs at other) now → AllZip R xs (set xs at now)
zip_set R same [] at other now one = tt
zip_set R same (x ∷ xs) zero other now one = (one, zip_itself R same xs)
zip_set R same (x ∷ xs) (suc at) other now one = (same x, zip_set R same xs at other now one)

pub outboxes_set : (ends : List OutboxState) (at : ℕ) (other now : OutboxState) → IsSameOutbox (get_or ends at other) now → AllZip IsSameOutbox ends (set ends at now)
outboxes_set = zip_set IsSameOutbox outbox_itself

pub sides_set : (sides : List InboxSide) (at : ℕ) (other now : InboxSide) → IsSameSide (get_or sides at other) now → AllZip IsSameSide sides (set sides at now)
sides_set = zip_set IsSameSide side_itself

-- where each place changed
pub zip_each : {A : Type 0} (R : A → A → Type 0) (xs ys : List A) → length ys ≡ length xs → ((k : ℕ) (d : A) → k < length xs → R (get_or xs k d) (get_or ys k d)) → AllZip R xs ys
zip_each R [] [] len each = tt
zip_each R [] (y ∷ ys) len each = absurd (omega arith)
zip_each R (x ∷ xs) [] len each = absurd (omega arith)
zip_each R (x ∷ xs) (y ∷ ys) len each = (each zero x (omega arith), zip_each R xs ys (omega arith) (λ k d few. each (suc k) d (omega arith)))

-- one part changed
pub senders_stay : (s : SessionState) (new : List OutboxState) → AllZip IsSameOutbox s.sending new → AreOfOneSession s → AreOfOneSession (record s { sending = new })
senders_stay s new same one = session_stays s (record s { sending = new }) one (record { sending = same; receiving = zip_itself IsSameSide side_itself s.receiving; reading = reading_itself s.reading.side; writing = pump_itself s.writing })

pub receivers_stay : (s : SessionState) (new : List InboxSide) → AllZip IsSameSide s.receiving new → AreOfOneSession s → AreOfOneSession (record s { receiving = new })
receivers_stay s new same one = session_stays s (record s { receiving = new }) one (record { sending = zip_itself IsSameOutbox outbox_itself s.sending; receiving = same; reading = reading_itself s.reading.side; writing = pump_itself s.writing })

pub reader_stays : (s : SessionState) (new : Reading) → IsSameReading s.reading.side new.side → AreOfOneSession s → AreOfOneSession (record s { reading = new })
reader_stays s new same one = session_stays s (record s { reading = new }) one (record { sending = zip_itself IsSameOutbox outbox_itself s.sending; receiving = zip_itself IsSameSide side_itself s.receiving; reading = same; writing = pump_itself s.writing })

pub writer_stays : (s : SessionState) (new : Pumping) → IsSamePump s.writing new → AreOfOneSession s → AreOfOneSession (record s { writing = new })
writer_stays s new same one = session_stays s (record s { writing = new }) one (record { sending = zip_itself IsSameOutbox outbox_itself s.sending; receiving = zip_itself IsSameSide side_itself s.receiving; reading = reading_itself s.reading.side; writing = same })
