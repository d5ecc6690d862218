-- What the fields of a peer keep, for src/peer.rt.
use Rattle.std.specs.Prelude.{◌≡◌, ℕ, List, length, map}
use Rattle.std.specs.List.{AllByRecursion}
use Rattle.circular_buffer.specs.Buffer.{Buffer}
use Rattle.lc_frame.specs.Bounds.{IsSlots}
use Rattle.lc_frame.specs.declared.frame.Frame.{Frame}
use Rattle.lc_frame.specs.declared.version.Version.{Version}
use Rattle.lc_frame.specs.Frame.{IsValid}
use Rattle.lc_frame.specs.Channel.{channel_count}
use Rattle.lc_peer.specs.declared.channel_state.ChannelState.{ChannelState}

-- the bytes of a channel's ring
abbrev pub ring_of : ChannelState → ℕ
ring_of s = s.inbox.book.capacity

-- every channel has its place and sends in the peer's version, its ring has the bytes that are named, as many frames may wait as a configuration allows, and those that wait are valid in that version
pub record ArePeerFields (version : Version) (channels : List ChannelState) (waiting : Buffer Frame) (capacities : List ℕ) : Type 0 where
  pub places : length channels ≡ channel_count
  pub versions : AllByRecursion (λ s. s.client.version ≡ version) channels
  pub rings : map ring_of channels ≡ capacities
  pub slots : IsSlots waiting.capacity
  pub each : AllByRecursion (IsValid version) waiting.items
