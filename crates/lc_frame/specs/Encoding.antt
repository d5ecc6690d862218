-- The bytes of a frame, and which frame or fault stands at the front of a list of bytes. The frames are those of LCMUX, but for Finish; that, their bytes and the faults are this project's own.
use Rattle.std.specs.Prelude.{◌≡◌, ℕ, ◌+◌, ◌*◌, ◌^◌, ◌<◌, true, List, [], ◌∷◌, ◌++◌, Option, Some, None}
use Rattle.std.specs.Int.{Width, to_be_bytes}
use Rattle.lc_frame.specs.declared.version.Version.{Version}
use Rattle.lc_frame.specs.declared.channel.Channel.{Channel}
use Rattle.lc_frame.specs.declared.kind.Kind.{Kind}
use Rattle.lc_frame.specs.declared.frame.Frame.{Frame}
use Rattle.lc_frame.specs.declared.frame_fault.FrameFault.{FrameFault}
use Rattle.lc_frame.specs.declared.frame_fault.FrameFault.TheVariants.{BadTag, ZeroLength, BadNumber, Truncated}
use Rattle.lc_frame.specs.Channel.{number_of}
use Rattle.lc_frame.specs.Kind.{code_of, has, width_of, width_len, IsInRange, fault_of}
use Rattle.lc_frame.specs.Frame.{kind_of, channel_of, field_of, body_of, IsValid}

-- the first byte of a frame: 16 times the code of its kind, and the channel's number
abbrev pub tag_of : Kind → Channel → ℕ
tag_of kind c = 16 * code_of kind + number_of c

-- a number of this width with its highest byte first, and no byte where there is no number
abbrev pub number_bytes : Option Width → ℕ → List ℕ
number_bytes None number = []
number_bytes (Some width) number = to_be_bytes width number

-- the first bytes of a frame: the tag, and the number
abbrev pub header : Version → Kind → Channel → ℕ → List ℕ
header v kind c number = tag_of kind c ∷ number_bytes (width_of v kind) number

-- the bytes of a frame: the tag, the number with its highest byte first, where there is one, and the message
abbrev pub encoding : Version → Frame → List ℕ
encoding v f = header v (kind_of f) (channel_of f) (field_of f) ++ body_of f

-- the bytes begin with those of a valid frame
pub record FrameStands (v : Version) (f : Frame) (bytes : List ℕ) : Type 0 where
  pub valid : IsValid v f
  pub rest : List ℕ
  pub is : bytes ≡ encoding v f ++ rest

-- the first byte is no tag of the version
pub record NoTagStands (v : Version) (bytes : List ℕ) : Type 0 where
  pub first : ℕ
  pub rest : List ℕ
  pub is : bytes ≡ first ∷ rest
  pub no_tag : (kind : Kind) (c : Channel) → has v kind ≡ true → ¬ (first ≡ tag_of kind c)

-- behind a tag of the version stands a whole number that is out of range
pub record NumberStands (v : Version) (fault : FrameFault) (bytes : List ℕ) : Type 0 where
  pub kind : Kind
  pub known : has v kind ≡ true
  pub channel : Channel
  pub number : ℕ
  pub rest : List ℕ
  pub fits : number < 256 ^ width_len (width_of v kind)
  pub is : bytes ≡ header v kind channel number ++ rest
  pub out : ¬ IsInRange v kind number
  pub names : fault_of kind number ≡ fault

-- why the bytes begin with no valid frame, however they go on
abbrev pub FaultStands : Version → FrameFault → List ℕ → Type 0
FaultStands v BadTag bytes = NoTagStands v bytes
FaultStands v ZeroLength bytes = NumberStands v ZeroLength bytes
FaultStands v BadNumber bytes = NumberStands v BadNumber bytes
FaultStands v Truncated bytes = ⊥
