-- The history of one channel's credit: what its two sides did, in one order, and when an entry may follow those before it. Sums alone could not tell whether a message was sent before or after its guarantees came. That guarantees are used only once they were received, and that a server may plead, is LCMUX's; that a use comes back where its frame was not put, and that of several pleads the last is answered, is this project's own.
use Rattle.std.specs.Prelude.{◌≡◌, ℕ, ◌+◌, ◌≤◌, Bool, true, false, List, ◌∷◌, ◌++◌, sum, Option, Some, None}
use Rattle.std.specs.List.{filter_map, fold}
use Rattle.lc_history.specs.History as histories
use Rattle.lc_credit.specs.declared.history.Entry.{Entry}
use Rattle.lc_credit.specs.declared.history.Entry.TheVariants.{Received, Used, Returned, Asked, Taken}

-- the amount that an entry received
abbrev pub received_of : Entry → Option ℕ
received_of (Received n) = Some n
received_of e = None

-- the amount that an entry used
abbrev pub used_of : Entry → Option ℕ
used_of (Used n) = Some n
used_of e = None

-- the amount that an entry returned
abbrev pub returned_of : Entry → Option ℕ
returned_of (Returned n) = Some n
returned_of e = None

-- the target that an entry asked
abbrev pub asked_of : Entry → Option ℕ
asked_of (Asked target) = Some target
asked_of e = None

-- the target that an entry took
abbrev pub taken_of : Entry → Option ℕ
taken_of (Taken target) = Some target
taken_of e = None

-- how much was received, all in all
abbrev pub received : List Entry → ℕ
received history = sum (filter_map received_of history)

-- how much was used, all in all
abbrev pub used : List Entry → ℕ
used history = sum (filter_map used_of history)

-- how much was returned, all in all
abbrev pub returned : List Entry → ℕ
returned history = sum (filter_map returned_of history)

-- the targets that were asked, in order
abbrev pub targets_asked : List Entry → List ℕ
targets_asked history = filter_map asked_of history

-- the targets that were taken, in order
abbrev pub targets_taken : List Entry → List ℕ
targets_taken history = filter_map taken_of history

-- the target that waits, after one entry more
abbrev pub waiting_after : Option ℕ → Entry → Option ℕ
waiting_after waiting (Asked target) = Some target
waiting_after waiting (Taken target) = None
waiting_after waiting e = waiting

-- the target that waits: the one that was asked last, unless it was taken since
abbrev pub waiting : List Entry → Option ℕ
waiting history = fold waiting_after None history

-- the use that a return would undo, after one entry more
abbrev pub last_use_after : Option ℕ → Entry → Option ℕ
last_use_after last (Used n) = Some n
last_use_after last (Returned n) = None
last_use_after last e = last

-- the use that a return would undo: the last one, unless it was returned since
abbrev pub last_use : List Entry → Option ℕ
last_use history = fold last_use_after None history

-- what the credit word is after a history: what was received and is not in use
abbrev pub IsHeld : ℕ → List Entry → Type 0
IsHeld word history = word + used history ≡ received history + returned history

-- a use is covered: with it, what was used less what was returned is at most what was received before. What is returned is the last use, whole. What is taken waits. An amount is received, and a target asked, at any time
abbrev pub MayFollow : List Entry → Entry → Type 0
MayFollow history (Used n) = used history + n ≤ received history + returned history
MayFollow history (Returned n) = last_use history ≡ Some n
MayFollow history (Taken target) = waiting history ≡ Some target
MayFollow history e = Unit {0}

-- each entry may follow those before it
abbrev pub IsHistory : List Entry → Type 0
IsHistory history = histories.IsHistory MayFollow history

-- whether an entry is the reading side's
abbrev pub is_incoming : Entry → Bool
is_incoming (Received n) = true
is_incoming (Asked target) = true
is_incoming e = false

-- whether an entry is the sending end's
abbrev pub is_outgoing : Entry → Bool
is_outgoing (Used n) = true
is_outgoing (Returned n) = true
is_outgoing (Taken target) = true
is_outgoing e = false

-- a side has seen more of the history, without an entry of its own
abbrev pub Learns : (Entry → Bool) → List Entry → List Entry → Type 0
Learns own old new = histories.Learns MayFollow own old new

-- a side has made an entry, after what it had seen and what the other has done since
abbrev pub Makes : (Entry → Bool) → List Entry → Entry → List Entry → Type 0
Makes own old e new = histories.Makes MayFollow own old e new

-- at each use of the history, what was used with it, less what came back, is at most what had been received before
abbrev pub CoversEachUse : List Entry → Type 0
CoversEachUse history = (before : List Entry) (n : ℕ) (later : List Entry) → history ≡ before ++ Used n ∷ later → used before + n ≤ received before + returned before
