-- Reading the front of a list of bytes from left to right: the way that src/scan.rt goes, and what it finds. A device of the proofs: what decoding means is in Decoded.antt, without it.
use Rattle.std.specs.Prelude.{◌≡◌, ℕ, ◌+◌, ◌/◌, ◌%◌, ◌≤◌, ◌<◌, ◌++◌, List, [], ◌∷◌, length, take, drop, Option, Some, None, nat_lt, if◌then◌else◌}
use Rattle.std.specs.Int.{Width, from_be_bytes}
use Rattle.lc_frame.specs.declared.version.Version.{Version}
use Rattle.lc_frame.specs.declared.channel.Channel.{Channel}
use Rattle.lc_frame.specs.declared.kind.Kind.{Kind}
use Rattle.lc_frame.specs.declared.kind.Kind.TheVariants.{Send, Issue, Absolve, Plead, LimitSending, LimitReceiving, Finish}
use Rattle.lc_frame.specs.declared.frame.Frame.{Frame}
use Rattle.lc_frame.specs.declared.frame.Frame.TheVariants as frames
use Rattle.lc_frame.specs.declared.frame_fault.FrameFault.TheVariants.{BadTag}
use Rattle.lc_frame.specs.declared.head.Head.{Head}
use Rattle.lc_frame.specs.declared.scan.Scan.{Scan}
use Rattle.lc_frame.specs.declared.scan.Scan.TheVariants.{Whole, Fault, Needs}
use Rattle.lc_frame.specs.Channel.{channel_at}
use Rattle.lc_frame.specs.Kind.{has, width_of, width_len, kind_at, IsInRange, is_in_range, fault_of, body_len, header_len, max_frame}
use Rattle.lc_frame.specs.Encoding.{encoding}
use Rattle.lc_frame.specs.Decoded.{IsOpen, OnlyFrame, OnlyFault}

-- the frame of a kind, a channel, a number and the bytes behind them
abbrev pub frame_with : Kind → Channel → ℕ → List ℕ → Frame
frame_with Send c number body = frames.Send c body
frame_with Issue c number body = frames.Issue c number
frame_with Absolve c number body = frames.Absolve c number
frame_with Plead c number body = frames.Plead c number
frame_with LimitSending c number body = frames.LimitSending c number
frame_with LimitReceiving c number body = frames.LimitReceiving c number
frame_with Finish c number body = frames.Finish c

-- the frame of these bytes, by its head
abbrev pub frame_in : Version → Head → List ℕ → Frame
frame_in v head text = frame_with head.kind head.channel head.number (drop (header_len v head.kind) text)

-- the number of bytes of this width, 0 where there is none
abbrev pub number_in : Option Width → List ℕ → ℕ
number_in None bytes = 0
number_in (Some width) bytes = from_be_bytes width bytes

-- what a scan finds behind a number in range
unfoldable pub scan_body : Version → Kind → Channel → ℕ → List ℕ → Scan
scan_body v kind c number rest =
    let len = body_len kind number in
    if nat_lt (length rest) len then Needs (header_len v kind + len)
    else Whole (record { kind = kind; channel = c; number = number }) (header_len v kind + len)

-- what a scan finds behind a tag
unfoldable pub scan_number : Version → Kind → Channel → List ℕ → Scan
scan_number v kind c bytes =
    let width = width_len (width_of v kind) in
    let number = number_in (width_of v kind) (take width bytes) in
    if nat_lt (length bytes) width then Needs (header_len v kind)
    else if is_in_range v kind number then scan_body v kind c number (drop width bytes)
    else Fault (fault_of kind number)

-- what a scan finds behind a first byte, by the kind and the channel that it names
unfoldable pub scan_tag : Version → Option Kind → Option Channel → List ℕ → Scan
scan_tag v None c rest = Fault BadTag
scan_tag v (Some kind) None rest = Fault BadTag
scan_tag v (Some kind) (Some c) rest = if has v kind then scan_number v kind c rest else Fault BadTag

-- what a scan finds at the front of the bytes
unfoldable pub scan_of : Version → List ℕ → Scan
scan_of v [] = Needs 1
scan_of v (first ∷ rest) = scan_tag v (kind_at (first / 16)) (channel_at (first % 16)) rest

-- the frame with this head stands at the front, in the first so many bytes
pub record FindsFrame (v : Version) (head : Head) (used : ℕ) (bytes : List ℕ) : Type 0 where
  pub only : OnlyFrame v (frame_in v head (take used bytes)) bytes
  pub used_is : used ≡ length (encoding v (frame_in v head (take used bytes)))
  pub in_range : IsInRange v head.kind head.number
  pub within : used ≤ length bytes
  pub small : used ≤ max_frame v
  pub begins : header_len v head.kind ≤ used

-- nothing stands at the front, nor does before there are so many bytes, and until then a scan finds the same
pub record NeedsMore (v : Version) (bytes : List ℕ) (need : ℕ) : Type 0 where
  pub short : length bytes < need
  pub small : need ≤ max_frame v
  pub more : (ys : List ℕ) → length (bytes ++ ys) < need → IsOpen v (bytes ++ ys)
  pub again : (ys : List ℕ) → length (bytes ++ ys) < need → scan_of v (bytes ++ ys) ≡ Needs need
  pub now_open : IsOpen v bytes

-- what a scan found of the bytes
abbrev pub Finds : Version → Scan → List ℕ → Type 0
Finds v (Whole head used) bytes = FindsFrame v head used bytes
Finds v (Fault fault) bytes = OnlyFault v fault bytes
Finds v (Needs need) bytes = NeedsMore v bytes need
