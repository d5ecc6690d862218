-- What two finished sessions keep of one channel direction, in what `finish` gave: the headline of running sessions. That a client that sends within its guarantees never has a message dropped is LCMUX's promise.
use Rattle.std.specs.Prelude.{◌≡◌, ℕ, ◌+◌, if◌then◌else◌, true, false, List, length, drop, slice_get, Some}
use Rattle.lc_frame.specs.declared.channel.Channel.{Channel}
use Rattle.lc_frame.specs.declared.frame.Frame.{Frame}
use Rattle.lc_frame.specs.Channel.{number_of}
use Rattle.lc_frame.specs.Stream.{messages, cost, issued, absolved, finished}
use Rattle.lc_book.specs.Server.{Server, outstanding, buffered, room}
use Rattle.lc_credit.specs.declared.balance.Balance.{Balance}
use Rattle.lc_outbox.specs.Outbox.{OutboxState}
use Rattle.lc_inbox.specs.History.{took}
use Rattle.lc_inbox.specs.Sides.{InboxSide}
use Rattle.lc_world.specs.Guarantee.{IsPrefix, FitsBuffer}
use Rattle.lc_interleaving.specs.Interleaving.{Trace}
use Rattle.lc_interleaving.specs.Finished.{Finished, IsFinished, trace}

-- what the first put and the second has not heard
abbrev pub under_way : Trace → Trace → List Frame
under_way from to = drop (length to.heard) from.put

-- the guarantees of a channel that are under way: as issues, and as messages and absolvings
abbrev pub in_flight : Channel → Trace → Trace → ℕ
in_flight c client server = issued c (under_way server client) + cost c (under_way client server) + absolved c (under_way client server)

-- where the promises of a channel are: held by the client or waived by it, or under way; none stands once the client's Finish was heard
abbrev pub promised : Channel → Trace → Trace → Balance → ℕ
promised c client server balance = if finished c server.heard then 0 else balance.held + balance.waived + in_flight c client server

-- the balance is that of what the client put and heard, and no guarantee is lost or made up; where the client finished nothing is held, and elsewhere nothing is waived
pub record IsBalanceOf (c : Channel) (t : Trace) (b : Balance) : Type 0 where
  pub received_is : b.received ≡ issued c t.heard
  pub spent_is : b.spent ≡ cost c t.put
  pub absolved_is : b.absolved ≡ absolved c t.put
  pub held_is : finished c t.put ≡ true → b.held ≡ 0
  pub waived_is : finished c t.put ≡ false → b.waived ≡ 0
  pub adds_up : b.held + b.spent + b.absolved + b.waived ≡ b.received

-- what two finished sessions keep on one channel one way, of which the first session is the client, and the second the server
pub record KeepsBetween (c : Channel) (client server : Finished) (sent received : Trace) : Type 0 where
  -- the two ends, and what `finish` gave for them
  pub sender : OutboxState
  pub receiver : InboxSide
  pub balance : Balance
  pub book : Server
  pub sender_there : slice_get client.session.sending (number_of c) ≡ Some sender
  pub receiver_there : slice_get server.session.receiving (number_of c) ≡ Some receiver
  pub balance_there : slice_get client.clients (number_of c) ≡ Some balance
  pub book_there : slice_get server.servers (number_of c) ≡ Some book
  -- the messages taken are a prefix of those sent
  pub in_order : IsPrefix (took receiver.seen) (messages c sender.lane.put)
  pub adds_up : IsBalanceOf c sent balance
  -- the ring holds what is buffered and all that may still come
  pub fits : FitsBuffer book.capacity book
  -- what is outstanding is where the promises are, so every byte of the ring is in one place
  pub somewhere : outstanding book ≡ promised c sent received balance
  pub conserved : promised c sent received balance + buffered book + room book ≡ book.capacity

-- the headline of running sessions: what two finished sessions keep, on all channels and both ways
pub record KeepPromises (a b : Finished) (fa : IsFinished a) (fb : IsFinished b) : Type 0 where
  pub a_sends : (c : Channel) → KeepsBetween c a b (trace a fa) (trace b fb)
  pub b_sends : (c : Channel) → KeepsBetween c b a (trace b fb) (trace a fa)
