-- What the intake of a sink with rings holds. Its bytes are those of its stream, as with any intake; of a message that is longer than its ring they are known and not kept. These rules are this project's own.
use Rattle.std.specs.Prelude.{◌≡◌, ℕ, ◌+◌, ◌<◌, ◌≤◌, List, ◌++◌, length, All, Option, Some, None, IfSome}
use Rattle.lc_frame.specs.declared.channel.Channel.{Channel}
use Rattle.lc_frame.specs.declared.kind.Kind.TheVariants.{Send}
use Rattle.lc_frame.specs.Kind.{IsInRange, header_len}
use Rattle.lc_frame.specs.Encoding.{header}
use Rattle.lc_frame.specs.Stored.{Stored, stored_in, IsUndecided}
use Rattle.lc_peer.specs.declared.delivery.Stop.{Stop}
use Rattle.lc_peer.specs.declared.skip.Skip.{Skip}
use Rattle.lc_frame.specs.Begun.{HasBegun}
use Rattle.lc_peer.specs.Longer.{IsLonger, FitsRings, FitsGreatest, KeepsFew}
use Rattle.lc_peer.specs.Intake.{IntakeState}

-- what came of a Send whose message is not kept: its tag, its length, and the bytes of the message so far
abbrev pub held_of : Skip → Stored
held_of s = stored_in s.version (header s.version Send s.channel s.len ++ s.body.bytes)

-- what is held: by the decoder, or of a Send whose message is not kept
abbrev pub held_with : Stored → Option Skip → Stored
held_with decoder None = decoder
held_with decoder (Some s) = held_of s

-- a Send whose message is not kept: it is longer than its ring, and so many bytes of it are missing
pub record IsSkip (rings : List ℕ) (s : Skip) : Type 0 where
  pub in_range : IsInRange s.version Send s.len
  pub longer : IsLonger rings s.channel s.len
  pub counted : s.missing + length s.body.bytes ≡ s.len
  pub bytes : All (λ b. b < 256) s.body.bytes

-- what a decoder keeps: no Send longer than its ring is begun there, and once one came, no more than its tag and its length
abbrev pub KeepsWith : List ℕ → Option Skip → Stored → Type 0
KeepsWith rings None decoder = KeepsFew rings decoder
KeepsWith rings (Some s) decoder = length decoder.bytes ≤ header_len s.version Send

-- how many bytes of what is held are kept: all, unless a Send is begun there that is longer than its ring, and then no more than its tag and its length have, 5 at most; never more than the greatest ring has and 9
pub record IsKept (intake : IntakeState) : Type 0 where
  pub all : FitsRings intake.rings intake.held → intake.kept ≡ length intake.held.bytes
  pub header : (c : Channel) (len : ℕ) → HasBegun c len intake.held → IsLonger intake.rings c len → intake.kept ≤ 5
  pub most : FitsGreatest intake.rings intake.kept

-- what every such intake keeps: before a stop neither a frame nor a fault stands, and of a message that is not kept some bytes are missing; what is kept is little
pub record IsRingIntake (decoder : Stored) (rings : List ℕ) (skip : Option Skip) (stop : Option Stop) : Type 0 where
  pub undecided : stop ≡ None → IsUndecided (held_with decoder skip)
  pub skips : IfSome skip (IsSkip rings)
  pub missing : stop ≡ None → IfSome skip (λ s. 0 < s.missing)
  pub kept : KeepsWith rings skip decoder
