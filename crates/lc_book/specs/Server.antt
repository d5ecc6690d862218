-- The server's book of one channel direction, and what each call on it refuses and leaves. Guarantees as promises of free buffer space, and pleading for their absolution, are LCMUX's; the order of refusals, the violations and that a client may finish are this project's own.
use Rattle.std.specs.Prelude.{◌≡◌, ◌⊎◌, ℕ, Bool, true, false, ◌+◌, ◌-◌, ◌≤◌, ◌==◌, nat_lt, nat_le, if◌then◌else◌, Option, Some, None}
use Rattle.std.specs.Option.{ForSome}
use Rattle.lc_frame.specs.Bounds.{IsCapacity}
use Rattle.lc_frame.specs.Kind.{max_total}
use Rattle.lc_book.specs.declared.server.ServerParts.{ServerParts}
use Rattle.lc_book.specs.declared.fault.Refusal.{Refusal}
use Rattle.lc_book.specs.declared.fault.Refusal.TheVariants.{ZeroAmount, PastReceiveLimit, NoRoom, NothingToAsk, TotalReached}
use Rattle.lc_book.specs.declared.fault.Violation.{Violation}
use Rattle.lc_book.specs.declared.fault.Violation.TheVariants.{NotGuaranteed, SentPastLimit, AbsolvedTooMuch, SendLimitRaised}
use Rattle.lc_book.specs.Limit.{is_past, less, left_of, limit_refusal}
use Rattle.lc_book.specs.Finish.{finished_refusal_or, finished_violation_or}

-- the bytes of the receiving ring, the guarantees issued, the bytes that arrived and those that were taken, the guarantees absolved, what is left of both limits, and whether the client's Finish arrived
pub record Server : Type 0 where
  pub capacity : ℕ
  pub issued : ℕ
  pub arrived : ℕ
  pub taken : ℕ
  pub absolved : ℕ
  pub send_left : Option ℕ
  pub receive_left : Option ℕ
  pub finished : Bool

-- a book on which nothing has happened, of a ring of so many bytes
abbrev pub new_server : ℕ → Server
new_server capacity = record { capacity = capacity; issued = 0; arrived = 0; taken = 0; absolved = 0; send_left = None; receive_left = None; finished = false }

-- where the client's Finish arrived, all promises that no message used up and that were not absolved. On these numbers the minus stops at 0; IsServer says that it never has to
abbrev pub waived : Server → ℕ
waived b = if b.finished then b.issued - b.arrived - b.absolved else 0

-- the promises that still stand: what was issued and neither used up, absolved nor waived
abbrev pub outstanding : Server → ℕ
outstanding b = b.issued - b.arrived - b.absolved - waived b

-- the bytes that wait: what arrived and was not taken
abbrev pub buffered : Server → ℕ
buffered b = b.arrived - b.taken

-- the rest of the ring: what is neither outstanding nor buffered
abbrev pub room : Server → ℕ
room b = b.capacity - outstanding b - buffered b

-- the client will send nothing more: its limit is used up, or it finished
abbrev pub IsEnded : Server → Type 0
IsEnded b = (b.send_left ≡ Some 0) ⊎ (b.finished ≡ true)

-- what every server's book keeps: no balance is below 0, the ring holds what is buffered and what is outstanding, and the numbers are within the profile's limits
pub record IsServer (b : Server) : Type 0 where
  pub capacity : IsCapacity b.capacity
  pub used : b.arrived + b.absolved + waived b ≤ b.issued
  pub total : b.issued ≤ max_total
  pub taken : b.taken ≤ b.arrived
  pub fits : outstanding b + buffered b ≤ b.capacity
  pub send_bound : ForSome b.send_left (λ left. left ≤ max_total)
  pub receive_bound : ForSome b.receive_left (λ left. left ≤ max_total)

-- a book by its named fields
abbrev pub server_of_parts : ServerParts → Server
server_of_parts p = record { capacity = p.capacity; issued = p.issued; arrived = p.arrived; taken = p.taken; absolved = p.absolved; send_left = p.send_left; receive_left = p.receive_left; finished = p.finished }

-- the named fields are those of a book, and what is waived is as the others say
pub record AreServerParts (p : ServerParts) : Type 0 where
  pub is_server : IsServer (server_of_parts p)
  pub waived_is : p.waived ≡ waived (server_of_parts p)

-- why a server may not issue so much: 15, 5, 9, 10 or 12, the first that holds
abbrev pub issue_refusal : Server → ℕ → Option Refusal
issue_refusal b n =
    finished_refusal_or b.finished (if n == 0 then Some ZeroAmount
    else (if is_past b.receive_left n then Some (PastReceiveLimit (left_of b.receive_left))
    else (if nat_lt (room b) n then Some (NoRoom (room b))
    else (if nat_lt max_total (b.issued + n) then Some TotalReached
    else None))))

-- what issuing so much leaves
abbrev pub issue : Server → ℕ → Server
issue b n = record b { issued = b.issued + n; receive_left = less b.receive_left n }

-- why a server may not plead for this target: 15, or 11, it is met already
abbrev pub plead_refusal : Server → ℕ → Option Refusal
plead_refusal b target = finished_refusal_or b.finished (if nat_le (outstanding b) target then Some (NothingToAsk (outstanding b)) else None)

-- why a server may not limit its receiving so: 15, 7 or 8, the first that holds
abbrev pub limit_receiving_refusal : Server → ℕ → Option Refusal
limit_receiving_refusal b bound = finished_refusal_or b.finished (limit_refusal b.receive_left bound)

-- what a limit on receiving leaves
abbrev pub limit_server : Server → ℕ → Server
limit_server b bound = record b { receive_left = Some bound }

-- what a take of a message of so many bytes leaves
abbrev pub note_taken : Server → ℕ → Server
note_taken b len = record b { taken = b.taken + len }

-- so many bytes that were buffered are room again, and what is outstanding is as it was
pub record AreFreed (len : ℕ) (old new : Server) : Type 0 where
  pub buffered_less : buffered new + len ≡ buffered old
  pub room_more : room new ≡ room old + len
  pub outstanding_same : outstanding new ≡ outstanding old

-- what is wrong with a message that arrives: V9, V1 or V2, the first that holds
abbrev pub message_violation : Server → ℕ → Option Violation
message_violation b len =
    finished_violation_or b.finished (if nat_lt (outstanding b) len then Some NotGuaranteed
    else (if is_past b.send_left len then Some SentPastLimit
    else None))

-- what a message that arrives leaves
abbrev pub add_arrived : Server → ℕ → Server
add_arrived b len = record b { arrived = b.arrived + len; send_left = less b.send_left len }

-- what is wrong with an absolving that arrives: V9 or V3, the first that holds
abbrev pub absolve_violation : Server → ℕ → Option Violation
absolve_violation b n = finished_violation_or b.finished (if nat_lt (outstanding b) n then Some AbsolvedTooMuch else None)

-- what an absolving that arrives leaves
abbrev pub add_absolved : Server → ℕ → Server
add_absolved b n = record b { absolved = b.absolved + n }

-- what is wrong with a limit on sending that arrives: V9 or V4, the first that holds
abbrev pub send_limit_violation : Server → ℕ → Option Violation
send_limit_violation b bound = finished_violation_or b.finished (if is_past b.send_left bound then Some SendLimitRaised else None)

-- what a limit on sending that arrives leaves
abbrev pub note_send_limit : Server → ℕ → Server
note_send_limit b bound = record b { send_left = Some bound }

-- what is wrong with a Finish that arrives: V9, another did before it
abbrev pub finish_violation : Server → Option Violation
finish_violation b = finished_violation_or b.finished None

-- what a Finish that arrives leaves
abbrev pub note_finish : Server → Server
note_finish b = record b { finished = true }
