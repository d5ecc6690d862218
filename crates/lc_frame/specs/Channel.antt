-- The seven channels and their numbers. That there are logical channels is LCMUX's; their set, names and numbers are this project's own.
use Rattle.std.specs.Prelude.{ℕ, zero, suc, Bool, ◌==◌, Option, Some, None}
use Rattle.lc_frame.specs.declared.channel.Channel.{Channel}
use Rattle.lc_frame.specs.declared.channel.Channel.TheVariants.{Reconciliation, Data, Overlap, Capability, AreaOfInterest, PayloadRequest, StaticToken}

-- how many channels there are
abbrev pub channel_count : ℕ
channel_count = 7

-- a channel's number, 0 to 6
abbrev pub number_of : Channel → ℕ
number_of Reconciliation = 0
number_of Data = 1
number_of Overlap = 2
number_of Capability = 3
number_of AreaOfInterest = 4
number_of PayloadRequest = 5
number_of StaticToken = 6

-- the channel of a number, where there is one
abbrev pub channel_at : ℕ → Option Channel
channel_at zero = Some Reconciliation
channel_at (suc zero) = Some Data
channel_at (suc (suc zero)) = Some Overlap
channel_at (suc (suc (suc zero))) = Some Capability
channel_at (suc (suc (suc (suc zero)))) = Some AreaOfInterest
channel_at (suc (suc (suc (suc (suc zero))))) = Some PayloadRequest
channel_at (suc (suc (suc (suc (suc (suc zero)))))) = Some StaticToken
channel_at (suc (suc (suc (suc (suc (suc (suc n))))))) = None

-- whether two channels are one
abbrev pub is_same : Channel → Channel → Bool
is_same c d = number_of c == number_of d
