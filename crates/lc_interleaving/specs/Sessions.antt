-- The laws of two finished sessions. Their premise, that there is one order of the steps of both, no part of a program can prove.
use Rattle.std.specs.Prelude.{◌≡◌, ℕ, List, ◌++◌, map, Contains}
use Rattle.atomic_table.specs.Seated.{TableId}
use Rattle.lc_frame.specs.declared.channel.Channel.{Channel}
use Rattle.lc_frame.specs.declared.kind.Kind.{Kind}
use Rattle.lc_frame.specs.declared.frame.Frame.{Frame}
use Rattle.lc_frame.specs.Bounds.{IsCapacity}
use Rattle.lc_frame.specs.Frame.{kind_of}
use Rattle.lc_credit.specs.declared.history.Entry.{Entry}
use Rattle.lc_credit.specs.declared.history.Entry.TheVariants.{Returned, Taken}
use Rattle.lc_inbox.specs.Sides.{InboxSide}
use Rattle.lc_interleaving.specs.Interleaving.{Trace, Joint, IsInterleaving}
use Rattle.lc_interleaving.specs.History.{history_of}
use Rattle.lc_interleaving.specs.State.{IsStateOfBoth}
use Rattle.lc_interleaving.specs.Promises.{KeepPromises}
use Rattle.lc_interleaving.specs.Lawful.{IsLawfulAfter, AreBreaches}
use Rattle.lc_interleaving.specs.Finished.{Finished, IsFinished, trace, FitsRings}

-- all that the laws ask for: two sessions that were finished, a capacity that no ring of theirs passes, and one order of the steps of both
pub record WereOne (capacity : ℕ) (a b : Finished) (fa : IsFinished a) (fb : IsFinished b) (order : List Joint) : Type 0 where
  pub is_capacity : IsCapacity capacity
  pub a_rings : FitsRings capacity a
  pub b_rings : FitsRings capacity b
  pub interleaving : IsInterleaving (trace a fa) (trace b fb) order

-- the order is a legal history of two peers, which leaves both streams as the sessions wrote, heard and took them
abbrev pub ReportsAreAState : Type 0
ReportsAreAState = (capacity : ℕ) (a b : Finished) (fa : IsFinished a) (fb : IsFinished b) (order : List Joint) → WereOne capacity a b fa fb order → IsStateOfBoth capacity (trace a fa) (trace b fb) (history_of order)

-- two finished sessions whose steps fell into one order keep their promises
abbrev pub FinishedSessionsKeepPromises : Type 0
FinishedSessionsKeepPromises = (capacity : ℕ) (a b : Finished) (fa : IsFinished a) (fb : IsFinished b) (order : List Joint) → WereOne capacity a b fa fb order → KeepPromises a b fa fb

-- at each moment of the order the next frame of each stream has no violation where it arrives
abbrev pub NextFramesAreLawful : Type 0
NextFramesAreLawful = (capacity : ℕ) (a b : Finished) (fa : IsFinished a) (fb : IsFinished b) (order : List Joint) → WereOne capacity a b fa fb order → (earlier later : List Joint) → order ≡ earlier ++ later → IsLawfulAfter capacity (trace a fa) (trace b fb) earlier

-- at each moment of the order a frame that a session refused is nothing that the other had put
abbrev pub RefusedFramesAreBreaches : Type 0
RefusedFramesAreBreaches = (capacity : ℕ) (a b : Finished) (fa : IsFinished a) (fb : IsFinished b) (order : List Joint) → WereOne capacity a b fa fb order → (earlier later : List Joint) → order ≡ earlier ++ later → AreBreaches (trace a fa) (trace b fb) earlier

-- of each kind of frame there is one among these
abbrev pub HasEveryKind : List Frame → Type 0
HasEveryKind frames = (kind : Kind) → Contains (map kind_of frames) kind

-- the history of one of a session's credits has such an entry
abbrev pub HasEntry : Trace → (ℕ → Entry) → Type 0
HasEntry t entry = (c : Channel) × (n : ℕ) × Contains (t.credit c) (entry n)

-- there are two such sessions, whichever queue, credits and inboxes are theirs; they put frames of every kind, and in the first an amount came back and a plead was taken to be honoured
pub record SomeWereOne : Type 0 where
  pub capacity : ℕ
  pub a : Finished
  pub b : Finished
  pub a_finished : IsFinished a
  pub b_finished : IsFinished b
  pub order : List Joint
  pub were_one : WereOne capacity a b a_finished b_finished order
  pub every_kind : HasEveryKind ((trace a a_finished).put ++ (trace b b_finished).put)
  pub came_back : HasEntry (trace a a_finished) Returned
  pub honoured : HasEntry (trace a a_finished) Taken

-- there are two finished sessions and an order of their steps, so that these laws speak of something
abbrev pub PremisesCanBeMet : Type 0
PremisesCanBeMet = TableId → InboxSide → SomeWereOne
