-- The client's book of one channel direction, and what each call on it refuses and leaves. Guarantees, sending within them and absolving are LCMUX's, also that a server may plead; the order of refusals, what a plead names, what an honour absolves and that a client may finish are this project's own.
use Rattle.std.specs.Prelude.{◌≡◌, ℕ, Bool, true, false, ◌+◌, ◌-◌, ◌≤◌, ◌==◌, nat_lt, if◌then◌else◌, Option, Some, None, unwrap_or}
use Rattle.std.specs.Option.{option_and_then, ForSome}
use Rattle.lc_frame.specs.declared.version.Version.{Version}
use Rattle.lc_frame.specs.declared.kind.Kind.TheVariants.{Finish}
use Rattle.lc_frame.specs.Kind.{has, max_body, max_amount, max_total}
use Rattle.lc_book.specs.declared.client.ClientParts.{ClientParts}
use Rattle.lc_book.specs.declared.fault.Refusal.{Refusal}
use Rattle.lc_book.specs.declared.fault.Refusal.TheVariants.{EmptyBody, BodyTooLong, PastSendLimit, NoGuarantee, ZeroAmount, NotHeld, WrongVersion}
use Rattle.lc_book.specs.declared.fault.Violation.{Violation}
use Rattle.lc_book.specs.declared.fault.Violation.TheVariants.{IssuedPastLimit, TooManyGuarantees, ReceiveLimitRaised, TotalPassed}
use Rattle.lc_book.specs.Limit.{is_past, less, left_of, limit_refusal}
use Rattle.lc_book.specs.Finish.{finished_refusal_or}

-- the version of the client's stream, the guarantees that came, those that messages used up, those that the client gave up, what is left of both limits, the target of the plead that is kept, and whether the client finished the channel
pub record Client : Type 0 where
  pub version : Version
  pub received : ℕ
  pub spent : ℕ
  pub absolved : ℕ
  pub send_left : Option ℕ
  pub receive_left : Option ℕ
  pub asked : Option ℕ
  pub finished : Bool

-- a book on which nothing has happened, in the version of the client's stream
abbrev pub new_client : Version → Client
new_client version = record { version = version; received = 0; spent = 0; absolved = 0; send_left = None; receive_left = None; asked = None; finished = false }

-- where the client finished, all guarantees that no message used up and that it did not absolve: what it held then, and what came later. On these numbers the minus stops at 0; IsClient says that it never has to
abbrev pub waived : Client → ℕ
waived b = if b.finished then b.received - b.spent - b.absolved else 0

-- the guarantees that the client has left
abbrev pub held : Client → ℕ
held b = b.received - b.spent - b.absolved - waived b

-- the plead that a client keeps: none once it finished
abbrev pub kept : Bool → Option ℕ → Option ℕ
kept finished asked = if finished then None else asked

-- what every client's book keeps: no balance is below 0, the numbers are within the profile's limits, only a client whose stream can say so finished, and one that finished keeps no plead
pub record IsClient (b : Client) : Type 0 where
  pub paid : b.spent + b.absolved + waived b ≤ b.received
  pub total : b.received ≤ max_total
  pub small : held b ≤ max_amount
  pub send_bound : ForSome b.send_left (λ left. left ≤ max_total)
  pub receive_bound : ForSome b.receive_left (λ left. left ≤ max_total)
  pub target : ForSome b.asked (λ target. target ≤ max_amount)
  pub finish : b.finished ≡ true → has b.version Finish ≡ true
  pub forgotten : b.finished ≡ true → b.asked ≡ None

-- a book by its named fields
abbrev pub client_of_parts : ClientParts → Client
client_of_parts p = record { version = p.version; received = p.received; spent = p.spent; absolved = p.absolved; send_left = p.send_left; receive_left = p.receive_left; asked = p.asked; finished = p.finished }

-- the named fields are those of a book, and what is waived is as the others say
pub record AreClientParts (p : ClientParts) : Type 0 where
  pub is_client : IsClient (client_of_parts p)
  pub waived_is : p.waived ≡ waived (client_of_parts p)

-- why a message of so many bytes may not go on a stream of this version where so much is left of the limit on sending: 1, 2, which the version decides, or 3, the first that holds; else `otherwise` says why
abbrev pub message_refusal_or : Version → Option ℕ → ℕ → Option Refusal → Option Refusal
message_refusal_or version left len otherwise =
    if len == 0 then Some EmptyBody
    else (if nat_lt (max_body version) len then Some BodyTooLong
    else (if is_past left len then Some (PastSendLimit (left_of left))
    else otherwise))

-- the same, whatever is held
abbrev pub message_refusal : Version → Option ℕ → ℕ → Option Refusal
message_refusal version left len = message_refusal_or version left len None

-- why a client may not send so many bytes: 15, 1, 2, 3 or 4, the first that holds
abbrev pub spend_refusal : Client → ℕ → Option Refusal
spend_refusal b len = finished_refusal_or b.finished (message_refusal_or b.version b.send_left len (if nat_lt (held b) len then Some (NoGuarantee (held b)) else None))

-- what a message of so many bytes leaves
abbrev pub spend : Client → ℕ → Client
spend b len = record b { spent = b.spent + len; send_left = less b.send_left len }

-- why a client may not absolve so much: 15, 5 or 6, the first that holds
abbrev pub absolve_refusal : Client → ℕ → Option Refusal
absolve_refusal b n =
    finished_refusal_or b.finished (if n == 0 then Some ZeroAmount
    else (if nat_lt (held b) n then Some (NotHeld (held b))
    else None))

-- what absolving so much leaves
abbrev pub absolve : Client → ℕ → Client
absolve b n = record b { absolved = b.absolved + n }

-- what it takes to come down to the target of the plead that is kept, where more is held
abbrev pub amount_to_absolve : Client → Option ℕ
amount_to_absolve b = option_and_then (λ target. if nat_lt target (held b) then Some (held b - target) else None) b.asked

-- why a client may not honour the plead that it keeps: 15
abbrev pub honour_refusal : Client → Option Refusal
honour_refusal b = finished_refusal_or b.finished None

-- what an honour leaves: that amount is absolved, and no plead is kept
abbrev pub honour : Client → Client
honour b = record b { absolved = b.absolved + unwrap_or (amount_to_absolve b) 0; asked = None }

-- why a client may not limit its sending so: 15, 7 or 8, the first that holds
abbrev pub limit_sending_refusal : Client → ℕ → Option Refusal
limit_sending_refusal b bound = finished_refusal_or b.finished (limit_refusal b.send_left bound)

-- what a limit on sending leaves
abbrev pub limit_client : Client → ℕ → Client
limit_client b bound = record b { send_left = Some bound }

-- why a client may not finish: 17, its stream has no such frame, or 15, it finished already
abbrev pub finish_refusal : Client → Option Refusal
finish_refusal b = if has b.version Finish then finished_refusal_or b.finished None else Some WrongVersion

-- what a Finish leaves: no plead is kept
abbrev pub finish : Client → Client
finish b = record b { asked = None; finished = true }

-- what is wrong with guarantees that arrive: V5, V6 or V8, the first that holds
abbrev pub issued_violation : Client → ℕ → Option Violation
issued_violation b n =
    if is_past b.receive_left n then Some IssuedPastLimit
    else (if nat_lt max_amount (held b + n) then Some TooManyGuarantees
    else (if nat_lt max_total (b.received + n) then Some TotalPassed
    else None))

-- what guarantees that arrive leave
abbrev pub add_received : Client → ℕ → Client
add_received b n = record b { received = b.received + n; receive_left = less b.receive_left n }

-- what a plead that arrives leaves: it is kept in place of an older one, but by no client that finished; it is never wrong
abbrev pub keep_plead : Client → ℕ → Client
keep_plead b target = record b { asked = kept b.finished (Some target) }

-- what is wrong with a limit on receiving that arrives: V7, it raises an earlier one
abbrev pub receive_limit_violation : Client → ℕ → Option Violation
receive_limit_violation b bound = if is_past b.receive_left bound then Some ReceiveLimitRaised else None

-- what a limit on receiving that arrives leaves
abbrev pub note_receive_limit : Client → ℕ → Client
note_receive_limit b bound = record b { receive_left = Some bound }
