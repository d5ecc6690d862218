-- What a take that lends its message answers. That messages are handed out in order is LCMUX's; that one is lent before it goes is this project's own.
use Rattle.std.specs.Prelude.{◌≡◌, ℕ, List, [], ◌∷◌, ◌++◌, Option, Some, None}
use Rattle.std.specs.Fn.{Once, FnOnceReturnsAtPair}
use denote.Ref.{Bor}
use Rattle.lc_ring.specs.Ring.{front}
use Rattle.lc_peer.specs.Inbox.{InboxState, take_answer}
use Rattle.lc_peer.specs.declared.inbox.Take.TheVariants.{Empty as NoneWaits, Ended as NoneComes}
use Rattle.lc_inbox.specs.declared.lent.Lent.{Lent}
use Rattle.lc_inbox.specs.declared.lent.Lent.TheVariants.{Read, Empty, Ended}
use Rattle.lc_inbox.specs.declared.history.Entry.{Entry}
use Rattle.lc_inbox.specs.declared.history.Entry.TheVariants.{Took}
use Rattle.lc_inbox.specs.Ends.{Held}
use Rattle.lc_inbox.specs.History.{inbox_after}
use Rattle.lc_inbox.specs.Sides.{InboxSide, IsTaken, HasLooked}

-- the entry of a take of the first message, where there is one
abbrev pub taken_entry : Option (List ℕ) → List Entry
taken_entry (Some body) = Took body ∷ []
taken_entry None = []

-- the entry of a take of an inbox's first message, where one waits
abbrev pub first_taken : Held → List Entry
first_taken h = taken_entry (front h.inbox.ring)

-- a closure that is lent the bytes of a message in two parts
abbrev pub Reader : Type 0 → Type 0 → Type 1
Reader F T = Once F (Bor (List ℕ) × (Bor (List ℕ) × Unit {0})) T

-- this is what the closure makes of the first message, at two parts of it, one after the other
abbrev pub IsMadeOf : {F T : Type 0} → Reader F T → F → T → InboxState → Type 0
IsMadeOf g read made inbox = (near : List ℕ) × (far : List ℕ) × (front inbox.ring ≡ Some (near ++ far)) × FnOnceReturnsAtPair g read near far made

-- what a take answers that lends the first message; without one, that none waits, or that none will come
abbrev pub IsLent : {F T : Type 0} → Reader F T → F → Lent T → InboxState → Type 0
IsLent g read (Read made) inbox = IsMadeOf g read made inbox
IsLent g read Empty inbox = take_answer inbox ≡ NoneWaits
IsLent g read Ended inbox = take_answer inbox ≡ NoneComes

-- the same of the inbox that two sides share: a message was taken, or the whole history up to here leaves none that waits
abbrev pub IsLentBy : {F T : Type 0} → Reader F T → F → Lent T → InboxSide → InboxSide → Type 0
IsLentBy g read (Read made) old new = (near : List ℕ) × (far : List ℕ) × IsTaken (near ++ far) old new × FnOnceReturnsAtPair g read near far made
IsLentBy g read Empty old new = HasLooked old new × (take_answer (inbox_after old.key new.seen) ≡ NoneWaits)
IsLentBy g read Ended old new = HasLooked old new × (take_answer (inbox_after old.key new.seen) ≡ NoneComes)
