-- What a stream that was given up shows of the frame or the byte that broke the rules. That a user learns it is this project's own.
use Rattle.std.specs.Prelude.{◌≡◌, ℕ, ◌-◌, ◌<◌, ◌⊎◌, length, slice_get, Option, Some, None}
use Rattle.lc_frame.specs.declared.frame.Frame.{Frame}
use Rattle.lc_frame.specs.declared.frame.Frame.TheVariants.{Finish}
use Rattle.lc_frame.specs.Kind.{max_amount, max_total}
use Rattle.lc_frame.specs.Frame.{kind_of, channel_of, field_of}
use Rattle.lc_frame.specs.declared.frame_fault.FrameFault.TheVariants.{ZeroLength, BadNumber}
use Rattle.lc_frame.specs.declared.out_of_range.OutOfRange.{OutOfRange}
use Rattle.lc_frame.specs.Stored.{Stored, IsValidIn, encoding_in, HasFrame, HasFault}
use Rattle.lc_frame.specs.Numbers.{HasNumber}
use Rattle.lc_book.specs.declared.fault.Violation.{Violation}
use Rattle.lc_book.specs.declared.fault.Violation.TheVariants.{NotGuaranteed, SentPastLimit, AbsolvedTooMuch, SendLimitRaised, IssuedPastLimit, TooManyGuarantees, ReceiveLimitRaised, TotalPassed, AfterFinish}
use Rattle.lc_book.specs.Client.{Client, held}
use Rattle.lc_book.specs.Server.{Server, outstanding}
use Rattle.lc_peer.specs.declared.frame_head.FrameHead.{FrameHead}

-- the number that a frame carries; a Finish carries none
abbrev pub carried : Frame → Option ℕ
carried (Finish c) = None
carried f = Some (field_of f)

-- what is known of a frame without its message
abbrev pub head_of : Frame → FrameHead
head_of f = record { kind = kind_of f; channel = channel_of f; number = carried f }

-- the bytes that are held are those of a frame with this head, as they are after a violation
pub record HoldsHead (head : FrameHead) (h : Stored) : Type 0 where
  pub frame : Frame
  pub valid : IsValidIn h.version frame
  pub whole : h.bytes ≡ encoding_in h.version frame
  pub is : head ≡ head_of frame

-- the bytes that are held begin with a tag and a number of this head, which is out of range, as they do after F2 and F3
pub record HoldsNumber (head : FrameHead) (h : Stored) : Type 0 where
  pub of : OutOfRange
  pub lies : HasNumber of h
  pub is : head ≡ record { kind = of.kind; channel = of.channel; number = Some of.number }

-- the head of the frame that stands at the front of what is held, or of the number there that is out of range, if one of them does
abbrev pub ShowsHead : Option FrameHead → Stored → Type 0
ShowsHead None h = ((f : Frame) → ¬ HasFrame f h) × ((¬ HasFault ZeroLength h) × (¬ HasFault BadNumber h))
ShowsHead (Some head) h = HoldsHead head h ⊎ HoldsNumber head h

-- the last byte that is held. As few bytes are taken as it takes to know a fault, so a bad tag, or the byte that differs from a greeting, is the last
abbrev pub last_byte : Stored → Option ℕ
last_byte h = slice_get h.bytes (length h.bytes - 1)

-- how much a frame might carry that violates the rules so, by the books of its channel; none behind a Finish. A limit that is not there is never passed
abbrev pub allowed : Client → Server → Violation → Option ℕ
allowed client server NotGuaranteed = Some (outstanding server)
allowed client server SentPastLimit = server.send_left
allowed client server AbsolvedTooMuch = Some (outstanding server)
allowed client server SendLimitRaised = server.send_left
allowed client server IssuedPastLimit = client.receive_left
allowed client server TooManyGuarantees = Some (max_amount - held client)
allowed client server ReceiveLimitRaised = client.receive_left
allowed client server TotalPassed = Some (max_total - client.received)
allowed client server AfterFinish = None

-- less is allowed than the frame carries, or nothing is and the channel is finished
abbrev pub Exceeds : Frame → Violation → Option ℕ → Type 0
Exceeds f violation None = violation ≡ AfterFinish
Exceeds f violation (Some allowed) = allowed < field_of f
