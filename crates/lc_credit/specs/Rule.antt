-- The rule of a credit's two words: there is one history that leaves them, and each side knows how it begins and all its own entries. No lock guards a credit: two threads change its words, each by single steps that nothing divides. So the rule is what each kind of step keeps, whatever the other thread did just before it. And what each step on a word tells the side that makes it. The words and the steps are this project's own; that what is held is what was received and not used is LCMUX's.
use Rattle.std.specs.Prelude.{◌≡◌, ℕ, zero, suc, ◌+◌, ◌-◌, ◌≤◌, List, [], length, slice_index, Option, Some, None, unwrap_or}
use mathlib.Core.Option.{some}
use lib.ListN.{get_elem?}
use Rattle.atomic_table.specs.Table.{State, Me, Step}
use Rattle.lc_frame.specs.Kind.{max_amount, max_total}
use Rattle.lc_history.specs.History.{Knows}
use Rattle.lc_credit.specs.declared.history.Entry.{Entry}
use Rattle.lc_credit.specs.declared.history.Entry.TheVariants.{Received, Used, Returned, Asked, Taken}
use Rattle.lc_credit.specs.declared.rule.View.{View}
use Rattle.lc_credit.specs.declared.rule.View.TheVariants.{Reading, Sending, Both, Closed}
use Rattle.lc_credit.specs.History.{received, used, returned, waiting, last_use, IsHeld, IsHistory, is_incoming, is_outgoing, Learns, Makes}

-- the asked word for a target that waits: 0 for none, else the target and 1. The reading side stores a target over an older one; the sending end takes it and leaves 0 in one step, so it answers no plead that nobody made, and none twice
abbrev pub asked_word : Option ℕ → ℕ
asked_word None = 0
asked_word (Some target) = target + 1

-- an amount, 0 where there is none
abbrev pub amount : Option ℕ → ℕ
amount o = unwrap_or o 0

-- the two words are those that a history leaves, and the numbers are within the profile's limits
pub record Leaves (history : List Entry) (credit asked : ℕ) : Type 0 where
  pub legal : IsHistory history
  pub held : IsHeld credit history
  pub waits : asked ≡ asked_word (waiting history)
  pub owed : returned history + amount (last_use history) ≤ used history
  pub total : received history ≤ max_total
  pub target : asked ≤ max_amount + 1

-- what a seat has seen, as the reading side where it has both
abbrev pub seen_of : View → List Entry
seen_of (Reading seen looks) = seen
seen_of (Sending seen looks least) = seen
seen_of (Both seen looks sent) = seen
seen_of Closed = []

-- what a seat has seen as the sending end
abbrev pub sent_of : View → List Entry
sent_of (Sending seen looks least) = seen
sent_of (Both seen looks sent) = sent
sent_of v = []

-- how often a seat's side has looked
abbrev pub looks_of : View → ℕ
looks_of (Reading seen looks) = looks
looks_of (Sending seen looks least) = looks
looks_of (Both seen looks sent) = looks
looks_of Closed = 0

-- what the credit word has at least, as a sending end knows
abbrev pub least_of : View → ℕ
least_of (Sending seen looks least) = least
least_of v = 0

-- the view of the reading side when both part
abbrev pub reading_of : View → View
reading_of v = Reading (seen_of v) (looks_of v)

-- the view of the sending end when both part
abbrev pub sending_of : View → View
sending_of v = Sending (sent_of v) 0 0

-- the view of both when they come together
abbrev pub both_of : View → View → View
both_of v w = Both (seen_of v) (looks_of v) (sent_of w)

-- what the rule says of one seat's view: there is one seat for each side, and what it knows is so
abbrev pub IsTrueOf : ℕ → ℕ → List Entry → ℕ → ℕ → View → Type 0
IsTrueOf reader sender history credit seat (Reading seen looks) = (seat ≡ reader) × Knows is_incoming seen history
IsTrueOf reader sender history credit seat (Sending seen looks least) = (seat ≡ sender) × Knows is_outgoing seen history × (least ≤ credit)
IsTrueOf reader sender history credit seat (Both seen looks sent) = (seat ≡ reader) × (seat ≡ sender) × Knows is_incoming seen history × Knows is_outgoing sent history
IsTrueOf reader sender history credit seat Closed = Unit {0}

-- the rule: between any two steps there is one history that leaves both words, and of which each seat's view is true
pub record KeepsCredit (s : State (Unit {0}) View) : Type 0 where
  pub reader : ℕ
  pub sender : ℕ
  pub history : List Entry
  pub words : length s.words ≡ 2
  pub leaves : Leaves history (slice_index s.words 0) (slice_index s.words 1)
  pub views : (seat : ℕ) (v : View) → get_elem? s.views seat ≡ some v → IsTrueOf reader sender history (slice_index s.words 0) seat v

-- a seat of the table
abbrev pub Seated : Type 0
Seated = Me (Unit {0}) View

-- a seat of the reading side, with no slot of the table
pub record IsReading (me : Seated) : Type 0 where
  pub view : me.0 ≡ Reading (seen_of me.0) (looks_of me.0)
  pub slots : me.1 ≡ []

-- a seat of the sending end, which knows so much of the word, with no slot of the table
pub record IsSending (least : ℕ) (me : Seated) : Type 0 where
  pub view : me.0 ≡ Sending (seen_of me.0) (looks_of me.0) least
  pub slots : me.1 ≡ []

-- what a load tells the reading side: of the seat before, the number found in the word, and the seat after
pub record LoadedIn (step : Step (Unit {0})) (old : Seated) (found : ℕ) (new : Seated) : Type 0 where
  pub learns : Learns is_incoming (seen_of old.0) (seen_of new.0)
  pub held : IsHeld found (seen_of new.0)
  pub covered : found ≤ received (seen_of new.0)
  pub view : new.0 ≡ Reading (seen_of new.0) (looks_of old.0 + 1)
  pub slots : new.1 ≡ old.1

-- what it tells the reading side to add what was received
pub record AddedReceived (step : Step (Unit {0})) (old : Seated) (found : ℕ) (new : Seated) : Type 0 where
  pub makes : Makes is_incoming (seen_of old.0) (Received step.first) (seen_of new.0)
  pub view : new.0 ≡ Reading (seen_of new.0) (looks_of old.0)
  pub slots : new.1 ≡ old.1

-- what it tells the reading side to store a target that is asked
pub record StoredAsked (step : Step (Unit {0})) (old : Seated) (found : ℕ) (new : Seated) : Type 0 where
  pub makes : Makes is_incoming (seen_of old.0) (Asked (step.first - 1)) (seen_of new.0)
  pub view : new.0 ≡ Reading (seen_of new.0) (looks_of old.0)
  pub slots : new.1 ≡ old.1

-- what a load tells the sending end
pub record LoadedOut (step : Step (Unit {0})) (old : Seated) (found : ℕ) (new : Seated) : Type 0 where
  pub learns : Learns is_outgoing (seen_of old.0) (seen_of new.0)
  pub held : IsHeld found (seen_of new.0)
  pub total : found ≤ max_total
  pub least : least_of old.0 ≤ found
  pub view : new.0 ≡ Sending (seen_of new.0) (looks_of old.0 + 1) found
  pub slots : new.1 ≡ old.1

-- what it tells the sending end to take out what it uses
pub record SubtractedUsed (step : Step (Unit {0})) (old : Seated) (found : ℕ) (new : Seated) : Type 0 where
  pub makes : Makes is_outgoing (seen_of old.0) (Used step.first) (seen_of new.0)
  pub covered : used (seen_of new.0) ≤ returned (seen_of new.0) + max_total
  pub view : new.0 ≡ Sending (seen_of new.0) (looks_of old.0) (least_of old.0 - step.first)
  pub slots : new.1 ≡ old.1

-- what it tells the sending end to add what comes back
pub record AddedReturned (step : Step (Unit {0})) (old : Seated) (found : ℕ) (new : Seated) : Type 0 where
  pub makes : Makes is_outgoing (seen_of old.0) (Returned step.first) (seen_of new.0)
  pub view : new.0 ≡ Sending (seen_of new.0) (looks_of old.0) (least_of old.0 + step.first)
  pub slots : new.1 ≡ old.1

-- the number n was found in the asked word and taken out of it: 0 says that nothing waits
abbrev pub TakesOut : ℕ → List Entry → List Entry → Type 0
TakesOut zero old new = Learns is_outgoing old new × (waiting new ≡ None)
TakesOut (suc target) old new = Makes is_outgoing old (Taken target) new

-- what it tells the sending end to empty the asked word
pub record SwappedAsked (step : Step (Unit {0})) (old : Seated) (found : ℕ) (new : Seated) : Type 0 where
  pub takes : TakesOut found (seen_of old.0) (seen_of new.0)
  pub target : found ≤ max_amount + 1
  pub view : new.0 ≡ Sending (seen_of new.0) (looks_of old.0 + 1) (least_of old.0)
  pub slots : new.1 ≡ old.1

-- what a last load tells both sides together
pub record LoadedLast (step : Step (Unit {0})) (old : Seated) (found : ℕ) (new : Seated) : Type 0 where
  pub same : new ≡ old
  pub history : List Entry
  pub legal : IsHistory history
  pub held : IsHeld found history
  pub seen : Knows is_incoming (seen_of old.0) history
  pub sent : Knows is_outgoing (sent_of old.0) history
