-- What one side of an inbox heard of the messages that it was given. It is this project's own.
use Rattle.std.specs.Prelude.{◌≡◌, ℕ, List, [], length, take}
use Rattle.lc_frame.specs.Stream.{messages}
use Rattle.lc_inbox.specs.Sides.{InboxSide, IsSameSide}
use Rattle.lc_inbox.specs.History.{heard}

-- the messages that arrived at a side
abbrev pub arrived : InboxSide → List (List ℕ)
arrived side = messages side.key.channel (heard side.seen)

-- both sides of one inbox, on which nothing has happened
pub record IsNewPair (incoming outgoing : InboxSide) : Type 0 where
  pub one : outgoing ≡ incoming
  pub seen : incoming.seen ≡ []

-- the first so many of these messages arrived, and no other, and it is still a side of the same inbox
pub record HeardTheFirst (given : List (List ℕ)) (old new : InboxSide) : Type 0 where
  pub same : IsSameSide old new
  pub first : arrived new ≡ take (length (arrived new)) given
