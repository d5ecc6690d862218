-- What one frame says: its kind, its channel, the number that it carries, its message, and its lane. The kinds of frame are those of LCMUX, but for Finish; that and lanes are this project's own.
use Rattle.std.specs.Prelude.{◌≡◌, ℕ, ◌+◌, true, List, [], length}
use Rattle.lc_frame.specs.declared.version.Version.{Version}
use Rattle.lc_frame.specs.declared.channel.Channel.{Channel}
use Rattle.lc_frame.specs.declared.kind.Kind.{Kind}
use Rattle.lc_frame.specs.declared.kind.Kind.TheVariants as kinds
use Rattle.lc_frame.specs.declared.frame.Frame.{Frame}
use Rattle.lc_frame.specs.declared.frame.Frame.TheVariants.{Send, Issue, Absolve, Plead, LimitSending, LimitReceiving, Finish}
use Rattle.lc_frame.specs.Channel.{channel_count, number_of}
use Rattle.lc_frame.specs.Kind.{has, IsInRange}

-- what kind of frame it is
abbrev pub kind_of : Frame → Kind
kind_of (Send c body) = kinds.Send
kind_of (Issue c amount) = kinds.Issue
kind_of (Absolve c amount) = kinds.Absolve
kind_of (Plead c target) = kinds.Plead
kind_of (LimitSending c bound) = kinds.LimitSending
kind_of (LimitReceiving c bound) = kinds.LimitReceiving
kind_of (Finish c) = kinds.Finish

-- the channel that it concerns
abbrev pub channel_of : Frame → Channel
channel_of (Send c body) = c
channel_of (Issue c amount) = c
channel_of (Absolve c amount) = c
channel_of (Plead c target) = c
channel_of (LimitSending c bound) = c
channel_of (LimitReceiving c bound) = c
channel_of (Finish c) = c

-- the number that a frame carries: a message's length, an amount, a target or a bound; 0 where it carries none
abbrev pub field_of : Frame → ℕ
field_of (Send c body) = length body
field_of (Issue c amount) = amount
field_of (Absolve c amount) = amount
field_of (Plead c target) = target
field_of (LimitSending c bound) = bound
field_of (LimitReceiving c bound) = bound
field_of (Finish c) = 0

-- the bytes of its message
abbrev pub body_of : Frame → List ℕ
body_of (Send c body) = body
body_of f = []

-- a frame is valid where the version has its kind, and its number is in the range of that
abbrev pub IsValid : Version → Frame → Type 0
IsValid v f = (has v (kind_of f) ≡ true) × IsInRange v (kind_of f) (field_of f)

-- the number of the lane on which it is put: the channel's for what a client puts, `channel_count` more for what a server puts
abbrev pub lane_of : Frame → ℕ
lane_of (Send c body) = number_of c
lane_of (Issue c amount) = channel_count + number_of c
lane_of (Absolve c amount) = number_of c
lane_of (Plead c target) = channel_count + number_of c
lane_of (LimitSending c bound) = number_of c
lane_of (LimitReceiving c bound) = channel_count + number_of c
lane_of (Finish c) = number_of c
