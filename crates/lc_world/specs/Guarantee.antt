-- What every history of two peers keeps: the headline. That a client that sends within its guarantees never has a message dropped is LCMUX's promise.
use Rattle.std.specs.Prelude.{◌≡◌, ℕ, ◌+◌, ◌≤◌, if◌then◌else◌, Bool, List, [], ◌∷◌, ◌++◌, length, take, drop, sum, sum_by, Option, None}
use Rattle.std.specs.List.{AllByRecursion, last_or}
use Rattle.lc_frame.specs.declared.channel.Channel.{Channel}
use Rattle.lc_frame.specs.declared.frame.Frame.{Frame}
use Rattle.lc_frame.specs.declared.frame.Frame.TheVariants as frame
use Rattle.lc_frame.specs.Channel.{number_of}
use Rattle.lc_frame.specs.Stream.{of_lane, messages, cost, issued, absolved, pleads, finished}
use Rattle.lc_book.specs.Client.{Client, kept, waived, held}
use Rattle.lc_book.specs.Server.{Server, waived as waived_by, outstanding, buffered}
use Rattle.lc_world.specs.declared.event.Side.{Side}
use Rattle.lc_world.specs.declared.event.Act.{Act}
use Rattle.lc_world.specs.declared.event.Act.TheVariants.{Honour, LimitSending, LimitReceiving, Finish}
use Rattle.lc_world.specs.declared.event.Answer.{Answer}
use Rattle.lc_world.specs.declared.event.Answer.TheVariants.{Accepted, Absolved, NothingToAbsolve, Violated}
use Rattle.lc_world.specs.State.{State, Versions, opening, line, other, client, server, stream, kept_plead, taken_messages}
use Rattle.lc_world.specs.Histories.{History, after_all, IsHistory, accepted, amounts, taken, honours}

-- the state after a whole history
abbrev pub state_of : ℕ → Versions → History → State
state_of capacity versions history = after_all (opening capacity versions) history

-- the state after the first n events of a history
abbrev pub state_at : ℕ → Versions → History → ℕ → State
state_at capacity versions history n = state_of capacity versions (take n history)

-- the first list is the beginning of the second
abbrev pub IsPrefix : List (List ℕ) → List (List ℕ) → Type 0
IsPrefix xs ys = (rest : List (List ℕ)) × (xs ++ rest ≡ ys)

-- the frame that arrived was not refused
abbrev pub IsLawful : Answer → Type 0
IsLawful (Violated v) = ⊥
IsLawful answer = Unit {0}

-- the honour was answered, whether it absolved or not
abbrev pub IsHonoured : Answer → Type 0
IsHonoured (Absolved amount) = Unit {0}
IsHonoured NothingToAbsolve = Unit {0}
IsHonoured answer = ⊥

-- no balance of a server is below 0, and its ring holds what is buffered and all that may still come
pub record FitsBuffer (capacity : ℕ) (b : Server) : Type 0 where
  pub not_overdrawn : b.arrived + b.absolved + waived_by b ≤ b.issued
  pub taken_of_arrived : b.taken ≤ b.arrived
  pub fits : buffered b + outstanding b ≤ capacity

-- no balance of a client is below 0, and no guarantee is lost or made up
pub record AddsUp (b : Client) : Type 0 where
  pub not_overspent : b.spent + b.absolved + waived b ≤ b.received
  pub sum : held b + b.spent + b.absolved + waived b ≡ b.received

-- where the promises of a channel are: held by the client or waived by it, or in flight as an issue, a message or an absolving; none stands once the client's Finish has arrived
abbrev pub promised : State → Side → Channel → ℕ
promised w client_side c =
    let sent = (line w client_side).in_flight in
    let book = client w client_side c in
    if finished c (line w client_side).arrived then 0
    else held book + waived book + issued c (line w (other client_side)).in_flight + cost c sent + absolved c sent

-- what is outstanding is there
abbrev pub IsSomewhere : State → Side → Channel → Type 0
IsSomewhere w client_side c = outstanding (server w (other client_side) c) ≡ promised w client_side c

-- at one moment, in every channel direction
pub record IsBalanced (capacity : ℕ) (w : State) : Type 0 where
  pub buffer : (s : Side) (c : Channel) → FitsBuffer capacity (server w s c)
  pub sums : (s : Side) (c : Channel) → AddsUp (client w s c)
  pub in_flight : (s : Side) (c : Channel) → IsSomewhere w s c

-- the history is cut after an accepted act of the side
abbrev pub IsCut : History → Side → Act → History → Type 0
IsCut history s act later = (earlier : History) × (history ≡ earlier ++ (record { side = s; act = act }, Accepted) ∷ later)

-- the frames that have arrived at the side
abbrev pub heard : Side → State → List Frame
heard s w = (line w (other s)).arrived

-- the plead that the side keeps on the channel as client
abbrev pub plead_kept : Side → Channel → State → Option ℕ
plead_kept s c w = kept_plead c (line w (other s))

-- the target of the last plead on the channel in the list
abbrev pub last_plead : Channel → List Frame → Option ℕ
last_plead c frames = last_or None (pleads c frames)

-- the history is cut after an honour of the side on the channel that was answered
abbrev pub IsCutAtHonour : History → Side → Channel → History → History → Type 0
IsCutAtHonour history s c earlier later = (answer : Answer) × IsHonoured answer × (history ≡ earlier ++ (record { side = s; act = Honour c }, answer) ∷ later)

-- whether the side finished the channel
abbrev pub has_finished : Side → Channel → State → Bool
has_finished s c w = finished c (stream (line w s))

-- the plead that is kept is the last that arrived since the last honour that was answered, or since the beginning where there was none; none is kept on a channel that the side finished
pub record KeepsLastPlead (capacity : ℕ) (versions : Versions) (history : History) (s : Side) (c : Channel) : Type 0 where
  pub never_honoured : honours c s history ≡ [] → plead_kept s c (state_of capacity versions history) ≡ kept (has_finished s c (state_of capacity versions history)) (last_plead c (heard s (state_of capacity versions history)))
  pub since_honour : (earlier later : History) → IsCutAtHonour history s c earlier later → honours c s later ≡ [] → plead_kept s c (state_of capacity versions history) ≡ kept (has_finished s c (state_of capacity versions history)) (last_plead c (drop (length (heard s (state_of capacity versions earlier))) (heard s (state_of capacity versions history))))

-- in the first state the side finished the channel, and the second is a later one
pub record IsFinishedSince (s : Side) (c : Channel) (before w : State) : Type 0 where
  -- the frames that have arrived at the side since
  pub came : List Frame
  pub heard_is : heard s w ≡ heard s before ++ came
  -- those that it has put behind its Finish
  pub behind : List Frame
  pub put_is : stream (line w s) ≡ stream (line before s) ++ frame.Finish c ∷ behind
  -- of these none is of its lane as client: behind its Finish it sends nothing on the channel, absolves nothing, limits nothing, and finishes no second time
  pub is_last : of_lane (number_of c) behind ≡ []
  -- what is waived is what was held just before the Finish, and every Issue that has arrived since
  pub waived_is : waived (client w s c) ≡ held (client before s c) + issued c came

-- once the client's Finish has arrived, its server has as waived what the client has, and the issues that are in flight to it; before that, nothing
abbrev pub ServerWaives : State → Side → Channel → Type 0
ServerWaives w client_side c = waived_by (server w (other client_side) c) ≡ (if finished c (line w client_side).arrived then waived (client w client_side c) + issued c (line w (other client_side)).in_flight else 0)

-- what a Finish of the side on the channel leaves; where there was none, nothing is waived. That what is waived, which the book has as a remainder, is what was held then and what still came, is said here
pub record KeepsFinish (capacity : ℕ) (versions : Versions) (history : History) (s : Side) (c : Channel) : Type 0 where
  pub never_finished : ((later : History) → IsCut history s (Finish c) later → ⊥) → waived (client (state_of capacity versions history) s c) ≡ 0
  pub since_finish : (later : History) (cut : IsCut history s (Finish c) later) → IsFinishedSince s c (state_of capacity versions cut.0) (state_of capacity versions history)
  pub server_waives : ServerWaives (state_of capacity versions history) s c

-- the headline: what every legal history of two peers keeps, on every channel, both ways
pub record KeepsGuarantees (capacity : ℕ) (versions : Versions) (history : History) : Type 0 where
  -- on every channel the messages taken are a prefix of those that its client had accepted
  pub in_order : (s : Side) (c : Channel) → IsPrefix (taken c (other s) history) (accepted c s history)
  -- no frame that arrives is refused
  pub no_violation : AllByRecursion (λ p. IsLawful p.1) history
  -- after every event all balances hold
  pub balanced : (n : ℕ) → IsBalanced capacity (state_at capacity versions history n)
  -- after an accepted limit, what is sent or issued later on the channel adds up to at most its bound
  pub send_limits_hold : (s : Side) (c : Channel) (bound : ℕ) (later : History) → IsCut history s (LimitSending c bound) later → sum_by length (accepted c s later) ≤ bound
  pub receive_limits_hold : (s : Side) (c : Channel) (bound : ℕ) (later : History) → IsCut history s (LimitReceiving c bound) later → sum (amounts c s later) ≤ bound
  -- the messages accepted in the history are those of the client's stream, and the messages taken are those that its server took
  pub accepted_is : (s : Side) (c : Channel) → accepted c s history ≡ messages c (stream (line (state_of capacity versions history) s))
  pub taken_is : (s : Side) (c : Channel) → taken c (other s) history ≡ taken_messages c (line (state_of capacity versions history) s)
  -- the plead that is kept is the last that arrived since the last honour that was answered
  pub plead_is : (s : Side) (c : Channel) → KeepsLastPlead capacity versions history s c
  -- after every event, what a Finish waives is what its client held, and what still came
  pub finish_is : (n : ℕ) (s : Side) (c : Channel) → KeepsFinish capacity versions (take n history) s c

-- every legal history keeps it, of whichever versions its streams are
abbrev pub EveryHistoryKeepsGuarantees : Type 0
EveryHistoryKeepsGuarantees = (capacity : ℕ) (versions : Versions) (history : History) → IsHistory capacity versions history → KeepsGuarantees capacity versions history
