-- The rule of a shared inbox: there is one history, each side knows how it begins and all its own entries, and where no side has the inbox it lies in the slot as the history leaves it. A lock lets one side in at a time: it sees the whole history, its call is judged by the inbox that this leaves, and its entry goes to the end before the other gets in. And what each step tells the side that makes it. All of it is this project's own.
use Rattle.std.specs.Prelude.{◌≡◌, ◌≢◌, ℕ, ◌+◌, ◌≤◌, Bool, true, false, List, [], ◌∷◌, ◌++◌, length, slice_index, Option, Some, None}
use mathlib.Core.Option.{some}
use lib.ListN.{get_elem?}
use Rattle.atomic_table.specs.Table.{State, Me}
use Rattle.lc_history.specs.History.{Knows}
use Rattle.lc_inbox.specs.declared.history.Entry.{Entry}
use Rattle.lc_inbox.specs.declared.rule.Key.{Key}
use Rattle.lc_inbox.specs.declared.rule.View.{View}
use Rattle.lc_inbox.specs.declared.rule.View.TheVariants.{Idle, Has, Both, Closed}
use Rattle.lc_inbox.specs.Ends.{Held}
use Rattle.lc_inbox.specs.History.{is_of, IsLeftBy, Loan}

-- the word while this side has the inbox; it is 0 while no side has it
abbrev pub word_of : Bool → ℕ
word_of true = 1
word_of false = 2

-- the other side
abbrev pub other : Bool → Bool
other true = false
other false = true

-- what a seat has seen itself, as the reading side where it has both
abbrev pub seen_of : View → List Entry
seen_of (Idle k side x n) = x
seen_of (Has k side x n y) = x
seen_of (Both k x y) = x
seen_of Closed = []

-- what a seat that has not got the inbox has seen
abbrev pub received_of : View → List Entry
received_of (Idle k side y n) = y
received_of v = []

-- the whole history, where a seat's side has the inbox
abbrev pub lent_of : View → Option (List Entry)
lent_of (Has k side x n y) = Some y
lent_of v = None

-- how many turns its side had: how often it took the inbox
abbrev pub turns_of : View → ℕ
turns_of (Idle k side x n) = n
turns_of (Has k side x n y) = n
turns_of v = 0

-- the view of the reading side when both part
abbrev pub reading_of : View → View
reading_of (Both k x y) = Idle k true x 0
reading_of v = Closed

-- the view of the receiving side when both part
abbrev pub receiving_of : View → View
receiving_of (Both k x y) = Idle k false y 0
receiving_of v = Closed

-- the view of both when they come together
abbrev pub both_of : View → View → View
both_of (Idle k side x n) w = Both k x (received_of w)
both_of v w = Closed

-- what the rule says of one view, where `seats` has the seat of each side
abbrev pub IsTrueOf : Key → (Bool → ℕ) → List Entry → ℕ → ℕ → View → Type 0
IsTrueOf key seats history word seat (Idle k side x n) = (k ≡ key) × (seats side ≡ seat) × Knows (is_of side) x history × (word ≢ word_of side)
IsTrueOf key seats history word seat (Has k side x n y) = (k ≡ key) × (seats side ≡ seat) × Knows (is_of side) x history × (history ≡ y) × (word ≡ word_of side)
IsTrueOf key seats history word seat (Both k x y) = (k ≡ key) × (seats true ≡ seat) × (seats false ≡ seat) × Knows (is_of true) x history × Knows (is_of false) y history × (word ≡ 0)
IsTrueOf key seats history word seat Closed = Unit {0}

-- the inbox lies in the slot, as the history leaves it
pub record IsHome (key : Key) (s : State (Option Held) View) (history : List Entry) : Type 0 where
  pub inbox : Held
  pub there : get_elem? s.homes 0 ≡ some (some (Some inbox))
  pub left : IsLeftBy key inbox history

-- the rule, between any two steps of both sides
pub record KeepsInbox (key : Key) (s : State (Option Held) View) : Type 0 where
  pub seats : Bool → ℕ
  pub history : List Entry
  pub words : length s.words ≡ 1
  pub word : slice_index s.words 0 ≤ 2
  pub home : slice_index s.words 0 ≡ 0 → IsHome key s history
  pub views : (seat : ℕ) (v : View) → get_elem? s.views seat ≡ some v → IsTrueOf key seats history (slice_index s.words 0) seat v

-- a seat of the table
abbrev pub Seated : Type 0
Seated = Me (Option Held) View

-- the loan of an inbox that is out, by the history when it was taken
abbrev pub loan_in : List Entry → Option Held → Option Loan
loan_in y None = None
loan_in y (Some t) = Some (record { history = y; held = t })

-- the loan of a seat, by its history and by what is out with it
abbrev pub loan_at : Option (List Entry) → List (ℕ × Option Held) → Option Loan
loan_at None c = None
loan_at (Some y) [] = None
loan_at (Some y) (p ∷ c) = loan_in y p.1

-- the loan of a seat, where its side has the inbox
abbrev pub loan_of : Seated → Option Loan
loan_of me = loan_at (lent_of me.0) me.1

-- the seat of a side
abbrev pub seated_of : Key → Bool → List Entry → ℕ → Option Loan → Seated
seated_of k side x n None = (Idle k side x n, [])
seated_of k side x n (Some l) = (Has k side x n l.history, (0, Some l.held) ∷ [])

-- a side that was free has the inbox now, and had one turn more
pub record Takes (k : Key) (side : Bool) (x : List Entry) (n : ℕ) (new : Seated) : Type 0 where
  pub held : Held
  pub history : List Entry
  pub is : new ≡ (Has k side x (n + 1) history, (0, Some held) ∷ [])
  pub knows : Knows (is_of side) x history
  pub left : IsLeftBy k held history

-- a seat tried to take the inbox: it has it where the word was 0, and else nothing changed
abbrev pub SeizedBy : View → List (ℕ × Option Held) → ℕ → Seated → Type 0
SeizedBy (Idle k side x n) c found new = (found ≡ 0 → Takes k side x n new) × (found ≢ 0 → new ≡ (Idle k side x n, c))
SeizedBy v c found new = Unit {0}

-- the same of a whole seat
abbrev pub Seized : Seated → ℕ → Seated → Type 0
Seized old found new = SeizedBy old.0 old.1 found new

-- the view of a side that gave the inbox back, after these entries
abbrev pub returned_by : List Entry → View → View
returned_by entries (Has k side x n y) = Idle k side (y ++ entries) n
returned_by entries v = Closed

-- the inbox was given back, after these entries
abbrev pub Returned : List Entry → Seated → Seated → Type 0
Returned entries old new = new ≡ (returned_by entries old.0, [])

-- both sides together have the inbox for good
pub record TakesLast (k : Key) (x y : List Entry) (new : Seated) : Type 0 where
  pub held : Held
  pub history : List Entry
  pub is : new ≡ (Closed, (0, Some held) ∷ [])
  pub reads : Knows (is_of true) x history
  pub receives : Knows (is_of false) y history
  pub left : IsLeftBy k held history

-- both sides together took the inbox for good: it was there
abbrev pub SeizedLastBy : View → ℕ → Seated → Type 0
SeizedLastBy (Both k x y) found new = (found ≡ 0) × TakesLast k x y new
SeizedLastBy v found new = Unit {0}

-- the same of a whole seat
abbrev pub SeizedLast : Seated → ℕ → Seated → Type 0
SeizedLast old found new = SeizedLastBy old.0 found new
