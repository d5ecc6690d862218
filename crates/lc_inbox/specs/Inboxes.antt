-- The inboxes of all seven channels, by number. The channels, and the bounds of their rings, are this project's own.
use Rattle.std.specs.Prelude.{◌≡◌, ◌⊎◌, ℕ, ◌-◌, ◌≤◌, List, [], ◌∷◌, map, slice_index, Option, Some, None}
use Rattle.lc_frame.specs.Channel.{channel_count}
use Rattle.lc_peer.specs.declared.config.PeerFault.{PeerFault}
use Rattle.lc_peer.specs.declared.config.PeerFault.TheVariants.{OutOfMemory}
use Rattle.lc_peer.specs.Config.{capacity_fault}
use Rattle.lc_book.specs.Server.{Server}
use Rattle.lc_queue.specs.Parts.{End}
use Rattle.lc_inbox.specs.declared.rule.Key.{Key}
use Rattle.lc_inbox.specs.Sides.{InboxId, InboxSide, IsNew, IsFinished}

-- the end of a lane on which a server puts, where nothing was put
pub record IsServerEnd (lane : End) : Type 0 where
  pub put : lane.put ≡ []
  pub server : channel_count ≤ lane.lane

-- the capacity of a lane's channel
abbrev pub capacity_of : List ℕ → End → ℕ
capacity_of capacities lane = slice_index capacities (lane.lane - channel_count)

-- both sides of a new inbox of the lane's channel, which puts on the lane
abbrev pub IsNewShared : List ℕ → End → InboxSide × InboxSide → Type 0
IsNewShared capacities lane shared = IsNew (capacity_of capacities lane) lane shared.0 shared.1

-- of these lanes, in order, each one's new inbox, of its channel's capacity, has its two sides at its place
abbrev pub AreNew : List ℕ → List End → List InboxSide → List InboxSide → Type 0
AreNew capacities [] [] [] = Unit {0}
AreNew capacities (lane ∷ lanes) (i ∷ incoming) (o ∷ outgoing) = IsNew (capacity_of capacities lane) lane i o × AreNew capacities lanes incoming outgoing
AreNew capacities lanes incoming outgoing = ⊥

-- which inbox a side is of
abbrev pub inbox_of : InboxSide → InboxId
inbox_of side = side.inbox

-- at each place both sides are of one inbox
abbrev pub AreMatched : List InboxSide → List InboxSide → Type 0
AreMatched incoming outgoing = map inbox_of incoming ≡ map inbox_of outgoing

-- which inbox a side is of, and what that was made of
abbrev pub origin_of : InboxSide → InboxId × Key
origin_of side = (side.inbox, side.key)

-- each side is still of the inbox that it was of, place by place
abbrev pub AreSameSides : List InboxSide → List InboxSide → Type 0
AreSameSides old new = map origin_of new ≡ map origin_of old

-- at each place the book and the end of the lane are those that the history of both sides leaves, and there are as many of each
abbrev pub AreFinished : List InboxSide → List InboxSide → List Server → List End → Type 0
AreFinished [] [] [] [] = Unit {0}
AreFinished (i ∷ incoming) (o ∷ outgoing) (book ∷ books) (lane ∷ lanes) = IsFinished i o book lane × AreFinished incoming outgoing books lanes
AreFinished incoming outgoing books lanes = ⊥

-- why there are no inboxes: a capacity that no ring may have, or want of memory where there is none
abbrev pub IsSharingAnswer : List ℕ → Option PeerFault → Type 0
IsSharingAnswer capacities answer = (answer ≡ capacity_fault capacities) ⊎ ((capacity_fault capacities ≡ None) × (answer ≡ Some OutOfMemory))
