-- A receiving ring: the messages that wait, and the bytes that there is room for. That a channel's buffer is bounded, and counted in bytes of messages, is LCMUX's; its bounds, and what each call answers, are this project's own.
use Rattle.std.specs.Prelude.{ℕ, ◌-◌, ◌≤◌, nat_lt, if◌then◌else◌, List, [], ◌∷◌, ◌++◌, length, drop, slice_get, Option, Some, None, Result, Ok, Err}
use Rattle.std.specs.List.{AllByRecursion, sum_by}
use Rattle.lc_frame.specs.declared.buffer_too_small.BufferTooSmall.{BufferTooSmall}
use Rattle.lc_frame.specs.Bounds.{IsCapacity}
use Rattle.lc_frame.specs.declared.version.Version.TheVariants.{Two}
use Rattle.lc_frame.specs.Kind.{max_body}
use Rattle.lc_ring.specs.declared.ring.Full.{Full}

-- the messages that wait, the first first, and the bytes that there is room for
pub record Ring : Type 0 where
  pub messages : List (List ℕ)
  pub capacity : ℕ

-- a ring in which nothing waits
abbrev pub new_ring : ℕ → Ring
new_ring capacity = record { messages = []; capacity = capacity }

-- the bytes of the messages that wait
abbrev pub bytes : Ring → ℕ
bytes r = sum_by length r.messages

-- the rest of the room: the capacity less these bytes. On these numbers the minus stops at 0; IsRing says that it never has to
abbrev pub free : Ring → ℕ
free r = r.capacity - bytes r

-- a message has at least 1 byte, and at most as many as the longest of version Two
pub record IsLength (len : ℕ) : Type 0 where
  pub at_least : 1 ≤ len
  pub at_most : len ≤ max_body Two

-- what every ring keeps: its capacity is one that a ring may have, its messages fit, and each of them is one
pub record IsRing (r : Ring) : Type 0 where
  pub capacity : IsCapacity r.capacity
  pub fits : bytes r ≤ r.capacity
  pub each : AllByRecursion (λ message. IsLength (length message)) r.messages

-- why a message of so many bytes is not taken in: it is longer than what is free, which the refusal names
abbrev pub push_refusal : Ring → ℕ → Option Full
push_refusal r len = if nat_lt (free r) len then Some (record { free = free r }) else None

-- the ring with the message as its last
abbrev pub push : Ring → List ℕ → Ring
push r message = record r { messages = r.messages ++ message ∷ [] }

-- the first message, where one waits
abbrev pub front : Ring → Option (List ℕ)
front r = slice_get r.messages 0

-- the ring without its first message
abbrev pub pop : Ring → Ring
pop r = record r { messages = drop 1 r.messages }

-- what a take into a buffer of so many bytes answers: the length of the first message, None where none waits, and of a message that is longer than the buffer the length that would do
abbrev pub take_answer : Option (List ℕ) → ℕ → Result (Option ℕ) BufferTooSmall
take_answer None room = Ok None
take_answer (Some message) room = if nat_lt room (length message) then Err (record { need = length message }) else Ok (Some (length message))

-- a buffer with the message at its front, and the rest of it as it was
abbrev pub with_front : Option (List ℕ) → List ℕ → List ℕ
with_front None buffer = buffer
with_front (Some message) buffer = message ++ drop (length message) buffer
