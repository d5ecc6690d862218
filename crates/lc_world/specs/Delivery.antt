-- The bytes of a stream, its greeting and then its frames, and which of its frames have arrived when so many of them were delivered. That a stream keeps its order is LCMUX's; that it may be cut at any byte is this project's own.
use Rattle.std.specs.Prelude.{◌≡◌, ◌↔◌, ℕ, ◌+◌, ◌-◌, ◌<◌, ◌≤◌, min, List, [], ◌∷◌, ◌++◌, length, take}
use Rattle.std.specs.List.{flat_map}
use Rattle.lc_frame.specs.declared.version.Version.{Version}
use Rattle.lc_frame.specs.declared.frame.Frame.{Frame}
use Rattle.lc_frame.specs.Version.{greeting}
use Rattle.lc_frame.specs.Encoding.{encoding}
use Rattle.lc_world.specs.declared.event.Side.{Side}
use Rattle.lc_world.specs.State.{Versions, Line, line, stream, size, arrive_on, deliver_on}
use Rattle.lc_world.specs.Answers.{bytes_in_flight}
use Rattle.lc_world.specs.Histories.{History, IsHistory}
use Rattle.lc_world.specs.Guarantee.{state_of}

-- the bytes of frames, one frame after the other
abbrev pub bytes_of : Version → List Frame → List ℕ
bytes_of v frames = flat_map (encoding v) frames

-- the bytes of a stream of these frames
abbrev pub text_of : Version → List Frame → List ℕ
text_of v frames = greeting v ++ bytes_of v frames

-- how many bytes of a stream were delivered
abbrev pub delivered : Line → ℕ
delivered l = (length (greeting l.version) - l.greeting_left) + length (bytes_of l.version l.arrived) + l.begun

-- fewer bytes of the first frame in flight were delivered than it has, and none where no frame is in flight
abbrev pub HasBegun : Version → List Frame → ℕ → Type 0
HasBegun v [] begun = begun ≡ 0
HasBegun v (f ∷ rest) begun = begun < size v f

-- the bytes of a stream come in order
pub record IsInOrder (l : Line) : Type 0 where
  pub begun : HasBegun l.version l.in_flight l.begun
  -- no more of the greeting is in flight than there is
  pub part : l.greeting_left ≤ length (greeting l.version)
  -- while some of it is, no byte of a frame was delivered
  pub first : 0 < l.greeting_left → (l.arrived ≡ []) × (l.begun ≡ 0)

-- the bytes of the stream come in order, what was delivered are its first, and a frame has arrived exactly where its last byte is among them
pub record IsCutByBytes (l : Line) : Type 0 where
  pub order : IsInOrder l
  -- what came of the greeting, the bytes of the frames that arrived, and those that have begun to come, are the first so many of the stream
  pub front : take (length (greeting l.version) - l.greeting_left) (greeting l.version) ++ (bytes_of l.version l.arrived ++ take l.begun (bytes_of l.version l.in_flight)) ≡ take (delivered l) (text_of l.version (stream l))
  -- a frame has arrived exactly where its last byte was delivered
  pub whole : (before behind : List Frame) (f : Frame) → stream l ≡ before ++ f ∷ behind → (length before < length l.arrived) ↔ (length (text_of l.version (before ++ f ∷ [])) ≤ delivered l)

-- after every legal history both streams are cut by bytes
abbrev pub EveryStreamIsCutByBytes : Type 0
EveryStreamIsCutByBytes = (capacity : ℕ) (versions : Versions) (history : History) → IsHistory capacity versions history → (s : Side) → IsCutByBytes (line (state_of capacity versions history) s)

-- what deliveries make of a stream
pub record DeliversBytes (l : Line) : Type 0 where
  -- so many bytes more were delivered, or all that were in flight
  pub counts : (count : ℕ) → delivered (deliver_on count l) ≡ delivered l + min count (bytes_in_flight l)
  -- two deliveries are one of as many bytes
  pub in_pieces : (m n : ℕ) → deliver_on n (deliver_on m l) ≡ deliver_on (m + n) l
  -- the arrival of a frame is the delivery of the bytes that are missing of it, and of the greeting before it
  pub arrives : (f : Frame) (rest : List Frame) → l.in_flight ≡ f ∷ rest → arrive_on l ≡ deliver_on (l.greeting_left + (size l.version f - l.begun)) l

-- on every stream whose bytes come in order, deliveries add up so
abbrev pub DeliveriesAddUp : Type 0
DeliveriesAddUp = (l : Line) → IsInOrder l → DeliversBytes l
