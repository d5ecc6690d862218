-- An end with its job, as a thread has it. It serves src/sending.rt and src/taking.rt.
use Rattle.lc_inbox.specs.Sides.{InboxSide, IsSameSide}
use Rattle.lc_outbox.specs.Outbox.{OutboxState, IsSameOutbox}
use Rattle.lc_loopback.specs.declared.exchange.Exchange.{Exchange}
use Rattle.lc_loopback.specs.declared.sending.Sender.{Sender}
use Rattle.lc_loopback.specs.declared.taking.Taker.{Taker}
use Rattle.lc_loopback.specs.declared.taken.Taken.{Taken}
use Rattle.lc_loopback.specs.Played.{PutsAll, TakesAll}

-- this sending end with its job
abbrev pub sender_with : Exchange → OutboxState → Sender
sender_with x o = record { end = o; exchange = x }

-- this receiving end with its job
abbrev pub taker_with : Exchange → InboxSide → Taker
taker_with x s = record { end = s; exchange = x }

-- the end that has the job
abbrev pub end_of_sender : Sender → OutboxState
end_of_sender s = s.end

-- the end that has the job
abbrev pub end_of_taker : Taker → InboxSide
end_of_taker t = t.end

-- it is still the same sending end
abbrev pub IsSameSender : Sender → Sender → Type 0
IsSameSender old new = IsSameOutbox old.end new.end

-- it is still the same receiving end
abbrev pub IsSameTaker : Taker → Taker → Type 0
IsSameTaker old new = IsSameSide old.end new.end

-- a sending end did its job
abbrev pub SenderGives : Sender → Taken → Sender → Type 0
SenderGives old n new = PutsAll old.exchange.plan old.end new.end

-- a receiving end did its job
abbrev pub TakerGives : Taker → Taken → Taker → Type 0
TakerGives old n new = TakesAll old.exchange.plan old.end n new.end
