-- The codes of what calls answer, and the number that goes with each. They are this project's own.
use Rattle.std.specs.Prelude.{ℕ, Bool, ◌==◌, nat_lt, if◌then◌else◌, Option, Some, None}
use Rattle.std.specs.Option.{option_map_or}
use Rattle.lc_book.specs.declared.fault.Refusal.{Refusal}
use Rattle.lc_book.specs.Fault.{detail_of, refusal_number}
use Rattle.lc_c.specs.declared.answer.LcmuxAnswer.{LcmuxAnswer}

-- codes: begin results
-- the code of a call that was done
abbrev pub done : ℕ
done = 0

-- the code of a handle that is empty
abbrev pub no_peer : ℕ
no_peer = 32

-- the code of a handle that has a peer already
abbrev pub has_peer : ℕ
has_peer = 33

-- the code where no channel has the number
abbrev pub no_channel : ℕ
no_channel = 34

-- the code where the format has no such version
abbrev pub bad_version : ℕ
bad_version = 35

-- the code where a ring would not have a capacity that rings have; the number is its channel's
abbrev pub bad_capacity : ℕ
bad_capacity = 36

-- the code where not as many frames might wait as may
abbrev pub bad_slots : ℕ
bad_slots = 37

-- the code where there is no such code
abbrev pub no_code : ℕ
no_code = 38

-- the code where the caller's struct is shorter than that of this version; the number is that size
abbrev pub bad_size : ℕ
bad_size = 39

-- the code where no message waits
abbrev pub empty : ℕ
empty = 48

-- the code where no message waits and none will come
abbrev pub ended : ℕ
ended = 49

-- the code where a message can never be sent
abbrev pub never : ℕ
never = 50

-- the code of a call that waits
abbrev pub waits : ℕ
waits = 51

-- the code where no notice is there
abbrev pub no_notice : ℕ
no_notice = 52

-- the outcome of an offer whose message can be sent
abbrev pub notified : ℕ
notified = 53

-- the code of a session that this side closed
abbrev pub closed_here : ℕ
closed_here = 64

-- the code of a session that the peer closed
abbrev pub closed_there : ℕ
closed_there = 65

-- the code of a session that was cut
abbrev pub cut : ℕ
cut = 66

-- the code of a session that this side aborted
abbrev pub aborted : ℕ
aborted = 67

-- the code of a session whose transport failed
abbrev pub transport_failed : ℕ
transport_failed = 68

-- codes: end

-- the answer that is a code alone
abbrev pub only : ℕ → LcmuxAnswer
only code = record { code = code; number = 0 }

-- the answer of a call that fills a struct of so many bytes: the struct that the caller has is as long, or the number says how long it has to be
abbrev pub sized : ℕ → ℕ → LcmuxAnswer
sized size needed = if nat_lt size needed then record { code = bad_size; number = needed } else only done

-- what such a call leaves in the struct
abbrev pub filled : {A : Type 0} → ℕ → ℕ → A → A → A
filled size needed new old = if nat_lt size needed then old else new

-- the number that a refusal carries, 0 where it has none
abbrev pub number_in : Refusal → ℕ
number_in refusal = option_map_or (λ detail. detail.1) (detail_of refusal) 0

-- the answer that is a refusal: its own number is the code
abbrev pub refusal_answer : Refusal → LcmuxAnswer
refusal_answer refusal = record { code = refusal_number refusal; number = number_in refusal }

-- what a call answers that may be refused
abbrev pub answer_of : Option Refusal → LcmuxAnswer
answer_of None = only done
answer_of (Some refusal) = refusal_answer refusal

-- whether a call was done
abbrev pub is_done : LcmuxAnswer → Bool
is_done answer = answer.code == done
