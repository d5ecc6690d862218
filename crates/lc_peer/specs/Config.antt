-- What a peer is made of, and why there is none. All bounds are this project's own.
use Rattle.std.specs.Prelude.{◌≡◌, ℕ, ◌+◌, ◌⊎◌, if◌then◌else◌, List, [], ◌∷◌, map, slice_index, Option, Some, None}
use Rattle.std.specs.Option.{option_map, option_or}
use Rattle.lc_frame.specs.Bounds.{is_capacity, is_slots}
use Rattle.lc_frame.specs.declared.channel.Channel.{Channel}
use Rattle.lc_frame.specs.Channel.{channel_at, number_of}
use Rattle.lc_peer.specs.declared.config.Config.{Config}
use Rattle.lc_peer.specs.declared.config.PeerFault.{PeerFault}
use Rattle.lc_peer.specs.declared.config.PeerFault.TheVariants.{BadCapacity, BadSlots, OutOfMemory}
use Rattle.lc_peer.specs.Peer.{PeerState, new_channel}

-- the first channel, of those from a number on, whose ring may not have its capacity
abbrev pub bad_from : ℕ → List ℕ → Option Channel
bad_from number [] = None
bad_from number (n ∷ capacities) = if is_capacity n then bad_from (number + 1) capacities else channel_at number

-- the first channel whose ring may not have its capacity
abbrev pub first_bad : List ℕ → Option Channel
first_bad capacities = bad_from 0 capacities

-- the ring of a channel may not have its capacity
abbrev pub bad_capacity : List ℕ → Channel → PeerFault
bad_capacity capacities c = BadCapacity c (slice_index capacities (number_of c))

-- what is wrong with the capacities: the first that no ring may have
abbrev pub capacity_fault : List ℕ → Option PeerFault
capacity_fault capacities = option_map (bad_capacity capacities) (first_bad capacities)

-- what is wrong with a configuration: the first channel with a bad capacity, else the slots
abbrev pub config_fault : Config → Option PeerFault
config_fault config = option_or (capacity_fault config.capacities) (if is_slots config.slots then None else Some (BadSlots config.slots))

-- why there is no peer: that fault, or want of memory where there is none
abbrev pub IsNewAnswer : Config → Option PeerFault → Type 0
IsNewAnswer config answer = (answer ≡ config_fault config) ⊎ ((config_fault config ≡ None) × (answer ≡ Some OutOfMemory))

-- the peer of a configuration: nothing has happened on any channel, and no frame waits
abbrev pub new_peer : Config → PeerState
new_peer config = record { version = config.version; channels = map (new_channel config.version) config.capacities; waiting = []; slots = config.slots; capacities = config.capacities }
