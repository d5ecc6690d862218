-- A Send that is begun at the front of some bytes, or of what is stored: its tag and its length stand there, and of its body any part, or nothing. That a frame's length comes before its body is LCMUX's; the rest is this project's own.
use Rattle.std.specs.Prelude.{◌≡◌, ℕ, ◌+◌, ◌≤◌, ◌++◌, List, length, Option, Some, None, ⊤}
use Rattle.lc_frame.specs.declared.version.Version.{Version}
use Rattle.lc_frame.specs.declared.channel.Channel.{Channel}
use Rattle.lc_frame.specs.declared.kind.Kind.TheVariants.{Send}
use Rattle.lc_frame.specs.Kind.{IsInRange, header_len}
use Rattle.lc_frame.specs.Encoding.{header}
use Rattle.lc_frame.specs.Decoded.{IsOpen}
use Rattle.lc_frame.specs.Stored.{Stored}

-- a Send on this channel, with a message of this length, is begun: the bytes are its tag, its length, and any others
pub record BeginsSend (v : Version) (c : Channel) (len : ℕ) (bytes : List ℕ) : Type 0 where
  pub in_range : IsInRange v Send len
  pub rest : List ℕ
  pub is : bytes ≡ header v Send c len ++ rest

-- the same in the version that is known; where none is known, no frame is begun
abbrev pub BeginsSendIn : Option Version → Channel → ℕ → List ℕ → Type 0
BeginsSendIn None c len bytes = ⊥
BeginsSendIn (Some v) c len bytes = BeginsSend v c len bytes

-- a Send on this channel, with a message of this length, is begun at the front of what is stored
abbrev pub HasBegun : Channel → ℕ → Stored → Type 0
HasBegun c len h = BeginsSendIn h.version c len h.bytes

-- a Send that is begun at the front of the bytes has at most so many bytes, its tag and its length among them
abbrev pub BeginsAtMost : Version → ℕ → List ℕ → Type 0
BeginsAtMost v most bytes = (c : Channel) (len : ℕ) → BeginsSend v c len bytes → header_len v Send + len ≤ most

-- the same in the version that is known; where none is known, no frame is begun
abbrev pub BeginsAtMostIn : Option Version → ℕ → List ℕ → Type 0
BeginsAtMostIn None most bytes = ⊤
BeginsAtMostIn (Some v) most bytes = BeginsAtMost v most bytes

-- a Send that is begun at the front of what is stored has at most so many bytes
abbrev pub HasBegunAtMost : ℕ → Stored → Type 0
HasBegunAtMost most h = BeginsAtMostIn h.version most h.bytes

-- with at most so many bytes, however they go on, neither a frame nor a fault stands at the front
abbrev pub TakesLonger : Version → ℕ → List ℕ → Type 0
TakesLonger v most bytes = (more : List ℕ) → length (bytes ++ more) ≤ most → IsOpen v (bytes ++ more)
