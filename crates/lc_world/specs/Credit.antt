-- Where the bytes of a ring are: every byte is always in exactly one place. What a peer promised and neither got back nor can give out again does not exist. What that is worth: whatever both sides did, what is under way can arrive and what waits can be taken; and then, on a channel that is not finished, what there is room for can be issued, unless a limit or the total of 2^62 forbids it, so that the client holds the whole ring again. This says what can be done, and not that any thread does it. That guarantees are neither lost nor made up is LCMUX's; that each byte is always in one place, and comes back, is this project's own way to say it.
use Rattle.std.specs.Prelude.{◌≡◌, ℕ, ◌+◌, ◌≤◌, min, false, [], ◌∷◌, ◌++◌, None}
use Rattle.lc_frame.specs.declared.channel.Channel.{Channel}
use Rattle.lc_frame.specs.Kind.{max_body, max_total}
use Rattle.lc_book.specs.Limit.{is_past}
use Rattle.lc_book.specs.Client.{held, spend_refusal}
use Rattle.lc_book.specs.Server.{room, buffered}
use Rattle.lc_world.specs.declared.event.Side.{Side}
use Rattle.lc_world.specs.declared.event.Act.TheVariants.{Issue, Arrive}
use Rattle.lc_world.specs.declared.event.Answer.TheVariants.{Accepted, Arrived}
use Rattle.lc_world.specs.State.{State, Versions, line, other, client, server}
use Rattle.lc_world.specs.Answers.{waiting}
use Rattle.lc_world.specs.Histories.{History, IsHistory}
use Rattle.lc_world.specs.Guarantee.{state_of, promised}

-- the capacity is what the client holds or waived, what is in flight to it as issues, what is in flight from it as messages and absolvings, what waits in the ring, and what may still be issued; of these the last two, once the client's Finish has arrived
abbrev pub IsConserved : ℕ → State → Side → Channel → Type 0
IsConserved capacity w s c =
    let book = server w (other s) c in
    promised w s c + buffered book + room book ≡ capacity

-- after every legal history, on each channel and both ways, each byte of the ring is in one of these places
abbrev pub CreditIsConserved : Type 0
CreditIsConserved = (capacity : ℕ) (versions : Versions) (history : History) → IsHistory capacity versions history → (s : Side) (c : Channel) → IsConserved capacity (state_of capacity versions history) s c

-- no frame is in flight on either stream
pub record IsQuiet (w : State) : Type 0 where
  pub in_flight : (s : Side) → (line w s).in_flight ≡ []

-- where no frame is in flight and no message waits on the channel, all of the ring is held by the client or may be issued
abbrev pub CreditNeverLeaks : Type 0
CreditNeverLeaks = (capacity : ℕ) (versions : Versions) (history : History) → IsHistory capacity versions history →
    let w = state_of capacity versions history in
    IsQuiet w → (s : Side) (c : Channel) → waiting c (line w s) ≡ [] → held (client w s c) + room (server w (other s) c) ≡ capacity

-- the server of the side's channel issues so much, and that arrives
abbrev pub reissue : Side → Channel → ℕ → History
reissue s c n = (record { side = other s; act = Issue c n }, Accepted) ∷ (record { side = s; act = Arrive }, Arrived) ∷ []

-- the client holds the whole ring, and its book refuses no message that fits both the ring and a frame, unless its own limit does
pub record IsRestored (capacity : ℕ) (versions : Versions) (history : History) (s : Side) (c : Channel) : Type 0 where
  pub legal : IsHistory capacity versions history
  pub full : held (client (state_of capacity versions history) s c) ≡ capacity
  pub sends : (len : ℕ) → 1 ≤ len → len ≤ min capacity (max_body (versions s)) → is_past (client (state_of capacity versions history) s c).send_left len ≡ false → spend_refusal (client (state_of capacity versions history) s c) len ≡ None

-- so it is where the client has not finished, once there was room, neither a limit nor the greatest total forbade to issue it, and it has arrived
abbrev pub CreditComesBack : Type 0
CreditComesBack = (capacity : ℕ) (versions : Versions) (history : History) → IsHistory capacity versions history →
    let w = state_of capacity versions history in
    IsQuiet w → (s : Side) (c : Channel) → waiting c (line w s) ≡ [] →
    let book = server w (other s) c in
    book.finished ≡ false → 1 ≤ room book → is_past book.receive_left (room book) ≡ false → book.issued + room book ≤ max_total →
    IsRestored capacity versions (history ++ reissue s c (room book)) s c
