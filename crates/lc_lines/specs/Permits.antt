-- Permits: each holds a slot and the guarantees of one message of its channel until it is used or given back. Permits of one channel are alike, and they are this project's own.
use Rattle.std.specs.Prelude.{◌≡◌, ℕ, ◌+◌, ◌-◌, ◌≤◌, ◌&&◌, nat_lt, nat_le, min, Bool, false, if◌then◌else◌, List, slice_index_or, replicate, sum_by, Option, Some, None}
use Rattle.lc_frame.specs.declared.channel.Channel.{Channel}
use Rattle.lc_frame.specs.Channel.{channel_count, number_of}
use Rattle.lc_frame.specs.declared.frame.Frame.{Frame}
use Rattle.lc_frame.specs.declared.frame.Frame.TheVariants.{Absolve}
use Rattle.lc_book.specs.declared.fault.Refusal.{Refusal}
use Rattle.lc_book.specs.declared.fault.Refusal.TheVariants.{NotHeld}
use Rattle.lc_book.specs.Client.{Client, held}
use Rattle.lc_book.specs.Limit.{is_past}
use Rattle.lc_lines.specs.declared.permits.Aside.{Aside}

-- a channel without permits
abbrev pub no_permits : Aside
no_permits = record { permits = 0; bytes = 0 }

-- no channel has permits
abbrev pub none_aside : List Aside
none_aside = replicate channel_count no_permits

-- what the permits of a channel hold
abbrev pub aside_on : List Aside → Channel → Aside
aside_on aside c = slice_index_or aside (number_of c) no_permits

-- how many permits of a channel are out
abbrev pub permits_on : List Aside → Channel → ℕ
permits_on aside c = (aside_on aside c).permits

-- how many permits of all channels are out
abbrev pub permits_out : List Aside → ℕ
permits_out aside = sum_by (λ a. a.permits) aside

-- one permit more, of so many bytes
abbrev pub with_permit : Aside → ℕ → Aside
with_permit a len = record { permits = a.permits + 1; bytes = a.bytes + len }

-- one permit less, of so many bytes
abbrev pub without_permit : Aside → ℕ → Aside
without_permit a len = record { permits = a.permits - 1; bytes = a.bytes - len }

-- whether a permit of so many bytes may be among those of a channel: one is out, and they set so many guarantees aside
abbrev pub is_permit : Aside → ℕ → Bool
is_permit a len = nat_lt 0 a.permits && nat_le len a.bytes

-- how many bytes a message has at most that is sent by a permit of so many bytes: none where there is no such permit
abbrev pub permitted : Aside → ℕ → ℕ
permitted a len = if is_permit a len then len else 0

-- a number, or what is left of a limit, whichever is less
abbrev pub within : Option ℕ → ℕ → ℕ
within None n = n
within (Some left) n = min left n

-- the guarantees that a call may use: those held, within the limit on sending, beside those that permits set aside
abbrev pub free_of : Client → Aside → ℕ
free_of b a = within b.send_left (held b) - a.bytes

-- 6 where a frame absolves guarantees that the permits of its channel set aside
abbrev pub beyond_permits : Client → Aside → Frame → Option Refusal
beyond_permits b a (Absolve c amount) = if nat_lt (held b - a.bytes) amount then Some (NotHeld (held b - a.bytes)) else None
beyond_permits b a f = None

-- the guarantees that permits set aside are among those that came and were neither used up nor absolved: until the channel is finished, those are the ones held
abbrev pub Covers : Client → Aside → Type 0
Covers b a = b.spent + b.absolved + a.bytes ≤ b.received

-- what permits set aside may be sent: the client has not finished the channel, and its limit on sending leaves no less
pub record Allows (b : Client) (a : Aside) : Type 0 where
  pub unfinished : b.finished ≡ false
  pub left : is_past b.send_left a.bytes ≡ false

-- so it is where a permit is out
abbrev pub AllowsPermits : Client → Aside → Type 0
AllowsPermits b a = 1 ≤ a.permits → Allows b a
