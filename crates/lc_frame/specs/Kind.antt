-- The table of the kinds of frame, by version: of each the code in its tag, whether the version has it, how wide the number behind the tag is, the least and the greatest number, and how many bytes stand behind it. The versions differ in the width and the greatest number of a Send, and in that version One has no Finish. The kinds are those of LCMUX, but for Finish; that, codes, widths and ranges are this project's own. The constants of the code are proved to be these where they are used.
use Rattle.std.specs.Prelude.{ℕ, zero, suc, Bool, true, false, ◌+◌, ◌≤◌, ◌^◌, ◌&&◌, nat_le, Option, Some, None}
use Rattle.std.specs.Int.{Width, w16, w32, w64, byte_len}
use Rattle.lc_frame.specs.declared.version.Version.{Version}
use Rattle.lc_frame.specs.declared.version.Version.TheVariants.{One, Two}
-- codes: begin kinds
use Rattle.lc_frame.specs.declared.kind.Kind.{Kind}
use Rattle.lc_frame.specs.declared.kind.Kind.TheVariants.{Send, Issue, Absolve, Plead, LimitSending, LimitReceiving, Finish}
-- codes: end
use Rattle.lc_frame.specs.declared.frame_fault.FrameFault.{FrameFault}
use Rattle.lc_frame.specs.declared.frame_fault.FrameFault.TheVariants.{ZeroLength, BadNumber}

-- how many bytes the longest message has: 65,535 in version One, 1,048,576 in version Two
abbrev pub max_body : Version → ℕ
max_body One = 65535
max_body Two = 2 ^ 20

-- the largest amount of guarantees in one frame, and the largest receiving ring
abbrev pub max_amount : ℕ
max_amount = 2 ^ 24

-- the largest bound of a limit, and the most guarantees ever issued on one channel
abbrev pub max_total : ℕ
max_total = 2 ^ 62

-- the code in the tag
abbrev pub code_of : Kind → ℕ
-- codes: begin codes of kinds
code_of Send = 1
code_of Issue = 2
code_of Absolve = 3
code_of Plead = 4
code_of LimitSending = 5
code_of LimitReceiving = 6
code_of Finish = 7

-- codes: end

-- the kind of a code, where there is one
abbrev pub kind_at : ℕ → Option Kind
-- codes: begin kinds of codes
kind_at (suc zero) = Some Send
kind_at (suc (suc zero)) = Some Issue
kind_at (suc (suc (suc zero))) = Some Absolve
kind_at (suc (suc (suc (suc zero)))) = Some Plead
kind_at (suc (suc (suc (suc (suc zero))))) = Some LimitSending
kind_at (suc (suc (suc (suc (suc (suc zero)))))) = Some LimitReceiving
kind_at (suc (suc (suc (suc (suc (suc (suc zero))))))) = Some Finish
kind_at _ = None

-- codes: end

-- whether a version has the kind: version One has no Finish
abbrev pub has : Version → Kind → Bool
has v Send = true
has v Issue = true
has v Absolve = true
has v Plead = true
has v LimitSending = true
has v LimitReceiving = true
has One Finish = false
has Two Finish = true

-- the width of a message's length
abbrev pub length_width : Version → Width
length_width One = w16
length_width Two = w32

-- the width of the number behind the tag; a Finish has none
abbrev pub width_of : Version → Kind → Option Width
width_of v Send = Some (length_width v)
width_of v Issue = Some w32
width_of v Absolve = Some w32
width_of v Plead = Some w32
width_of v LimitSending = Some w64
width_of v LimitReceiving = Some w64
width_of v Finish = None

-- how many bytes a number of that width has
abbrev pub width_len : Option Width → ℕ
width_len None = 0
width_len (Some width) = byte_len width

-- the least number of a kind
abbrev pub least_of : Kind → ℕ
least_of Send = 1
least_of Issue = 1
least_of Absolve = 1
least_of Plead = 0
least_of LimitSending = 0
least_of LimitReceiving = 0
least_of Finish = 0

-- the greatest number of a kind, in a version
abbrev pub greatest_of : Version → Kind → ℕ
greatest_of v Send = max_body v
greatest_of v Issue = max_amount
greatest_of v Absolve = max_amount
greatest_of v Plead = max_amount
greatest_of v LimitSending = max_total
greatest_of v LimitReceiving = max_total
greatest_of v Finish = 0

-- a frame of this kind may carry the number
abbrev pub IsInRange : Version → Kind → ℕ → Type 0
IsInRange v kind number = (least_of kind ≤ number) × (number ≤ greatest_of v kind)

-- whether a frame of this kind may carry the number
abbrev pub is_in_range : Version → Kind → ℕ → Bool
is_in_range v kind number = nat_le (least_of kind) number && nat_le number (greatest_of v kind)

-- the fault of a number out of range: F2 for a message of length 0, else F3
abbrev pub fault_of : Kind → ℕ → FrameFault
fault_of Send zero = ZeroLength
fault_of kind number = BadNumber

-- the bytes behind the number: as many as it says in a Send, else none
abbrev pub body_len : Kind → ℕ → ℕ
body_len Send number = number
body_len kind number = 0

-- how many bytes the tag and the number have
abbrev pub header_len : Version → Kind → ℕ
header_len v kind = 1 + width_len (width_of v kind)

-- how many bytes the longest frame has: 65,538 in version One, 1,048,581 in version Two
abbrev pub max_frame : Version → ℕ
max_frame v = header_len v Send + max_body v
