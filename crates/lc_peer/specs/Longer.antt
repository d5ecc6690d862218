-- Messages that their channel's ring can never hold, and how little is kept where none of them is. That a message has no more bytes than its receiver's buffer is LCMUX's; the rest is this project's own.
use Rattle.std.specs.Prelude.{ℕ, ◌+◌, ◌<◌, ◌≤◌, List, length, slice_get, IsSomeAnd}
use Rattle.lc_frame.specs.declared.version.Version.{Version}
use Rattle.lc_frame.specs.declared.channel.Channel.{Channel}
use Rattle.lc_frame.specs.declared.kind.Kind.TheVariants.{Send}
use Rattle.lc_frame.specs.Kind.{header_len}
use Rattle.lc_frame.specs.Channel.{number_of}
use Rattle.lc_frame.specs.Stored.{Stored}
use Rattle.lc_frame.specs.Begun.{HasBegun}

-- a message of this length is longer than the ring of its channel, by the bytes of the channels' rings; where none are named, none is
abbrev pub IsLonger : List ℕ → Channel → ℕ → Type 0
IsLonger rings c len = IsSomeAnd (slice_get rings (number_of c)) (λ ring. ring < len)

-- at the front of what is held no Send is begun whose message is longer than its ring
abbrev pub FitsRings : List ℕ → Stored → Type 0
FitsRings rings h = (c : Channel) (len : ℕ) → HasBegun c len h → ¬ IsLonger rings c len

-- a Send of at most so many bytes, its tag and its length among them, is no longer than its ring, whichever its channel is
abbrev pub FitsAny : ℕ → List ℕ → Type 0
FitsAny most rings = (v : Version) (c : Channel) (len : ℕ) → header_len v Send + len ≤ most → ¬ IsLonger rings c len

-- so many bytes are no more than the greatest of the rings has, and the longest tag with its number, which has 9
abbrev pub FitsGreatest : List ℕ → ℕ → Type 0
FitsGreatest rings kept = (most : ℕ) → ((c : Channel) → IsSomeAnd (slice_get rings (number_of c)) (λ ring. ring ≤ most)) → kept ≤ 9 + most

-- what is kept of a stream: no Send longer than its ring is begun there, and it is no more than the greatest ring and a header
pub record KeepsFew (rings : List ℕ) (kept : Stored) : Type 0 where
  pub fits : FitsRings rings kept
  pub few : FitsGreatest rings (length kept.bytes)
