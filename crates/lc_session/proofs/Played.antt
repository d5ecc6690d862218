-- Sessions that were played, once and again.
use Rattle.std.specs.List.{AllZip}
use Rattle.std.proofs.Common.{ℕ, zero, suc, List, [], ◌∷◌, get_or, set}
use Rattle.lc_inbox.specs.Sides.{InboxSide, IsSameSide}
use Rattle.lc_outbox.specs.Outbox.{OutboxState, IsSameOutbox}
use Rattle.lc_session.specs.Report.{SessionState}
use Rattle.lc_session.specs.Same.{IsSameSession}
use Rattle.lc_session.specs.Played.{HasPlayed, NewSessionsWerePlayed, SessionsArePlayedOn}
use Rattle.lc_session.proofs.Same.{outbox_itself, outbox_then, side_itself, side_then, reading_itself, reading_then, pump_itself, pump_then}
use Rattle.lc_session.proofs.Runs.{hears_nothing, hears_then}

pub zip_itself : {A : Type 0} (R : A → A → Type 0) → ((x : A) → R x x) → (xs : List A) → AllZip R xs xs
zip_itself R each [] = tt
zip_itself R each (x ∷ xs) = (each x, zip_itself R each xs)

-- where one place changed
zip_set : {A : Type 0} (R : A → A → Type 0) → ((x : A) → R x x) → (xs : List A) (at : ℕ) (other now : A) → R (get_or xs at other) now → AllZip R xs (set xs at now)
zip_set R same [] at other now one = tt
zip_set R same (x ∷ xs) zero other now one = (one, zip_itself R same xs)
zip_set R same (x ∷ xs) (suc at) other now one = (same x, zip_set R same xs at other now one)

pub outboxes_set : (ends : List OutboxState) (at : ℕ) (other now : OutboxState) → IsSameOutbox (get_or ends at other) now → AllZip IsSameOutbox ends (set ends at now)
outboxes_set = zip_set IsSameOutbox outbox_itself

pub sides_set : (sides : List InboxSide) (at : ℕ) (other now : InboxSide) → IsSameSide (get_or sides at other) now → AllZip IsSameSide sides (set sides at now)
sides_set = zip_set IsSameSide side_itself

zip_then : {A : Type 0} (R : A → A → Type 0) → ((x y z : A) → R x y → R y z → R x z) → (xs ys zs : List A) → AllZip R xs ys → AllZip R ys zs → AllZip R xs zs
zip_then R each [] [] [] p q = tt
zip_then R each [] [] (z ∷ zs) p q = absurd q
zip_then R each [] (y ∷ ys) zs p q = absurd p
zip_then R each (x ∷ xs) [] zs p q = absurd p
zip_then R each (x ∷ xs) (y ∷ ys) [] p q = absurd q
zip_then R each (x ∷ xs) (y ∷ ys) (z ∷ zs) p q = (each x y z p.0 q.0, zip_then R each xs ys zs p.1 q.1)

same_itself : (s : SessionState) → IsSameSession s s
same_itself s = record {
  sending = zip_itself IsSameOutbox outbox_itself s.sending;
  receiving = zip_itself IsSameSide side_itself s.receiving;
  reading = reading_itself s.reading.side;
  writing = pump_itself s.writing;
}

same_then : (a b c : SessionState) → IsSameSession a b → IsSameSession b c → IsSameSession a c
same_then a b c p q = record {
  sending = zip_then IsSameOutbox outbox_then a.sending b.sending c.sending p.sending q.sending;
  receiving = zip_then IsSameSide side_then a.receiving b.receiving c.receiving p.receiving q.receiving;
  reading = reading_then a.reading.side b.reading.side c.reading.side p.reading q.reading;
  writing = pump_then a.writing b.writing c.writing p.writing q.writing;
}

pub played_then : (a b c : SessionState) → HasPlayed a b → HasPlayed b c → HasPlayed a c
played_then a b c p q = record { same = same_then a b c p.same q.same; heard = hears_then a.reading b.reading c.reading p.heard q.heard }

pub new_were_played : NewSessionsWerePlayed
new_were_played config s new = record { began = s; new = new; played = record { same = same_itself s; heard = hears_nothing s.reading config.capacities new.reading_new } }

pub are_played_on : SessionsArePlayedOn
are_played_on config old new was played = record { began = was.began; new = was.new; played = played_then was.began old new was.played played }
