-- What the frames of a stream add up to on one channel: its messages and their cost, the guarantees issued and absolved, what is left of a limit, and whether the client finished. All but what a limit counts and the Finish is LCMUX's; that a limit counts what follows it on the stream is this project's own, and so is Finish.
use Rattle.std.specs.Prelude.{ℕ, ◌-◌, ◌==◌, Bool, true, false, List, [], ◌∷◌, length, filter, sum, sum_by, Option, Some, None}
use Rattle.std.specs.List.{filter_map, list_any}
use Rattle.std.specs.Option.{option_map, option_or}
use Rattle.lc_frame.specs.declared.channel.Channel.{Channel}
use Rattle.lc_frame.specs.declared.frame.Frame.{Frame}
use Rattle.lc_frame.specs.declared.frame.Frame.TheVariants.{Send, Issue, Absolve, Plead, LimitSending, LimitReceiving, Finish}
use Rattle.lc_frame.specs.Channel.{is_same}
use Rattle.lc_frame.specs.Frame.{channel_of, lane_of}

-- the frames of one channel, in order
abbrev pub on : Channel → List Frame → List Frame
on c frames = filter (λ f. is_same c (channel_of f)) frames

-- the frames of one lane, in order
abbrev pub of_lane : ℕ → List Frame → List Frame
of_lane lane frames = filter (λ f. lane_of f == lane) frames

-- the message of a Send
abbrev pub message_of : Frame → Option (List ℕ)
message_of (Send c body) = Some body
message_of f = None

-- the amount of an Issue
abbrev pub issue_of : Frame → Option ℕ
issue_of (Issue c amount) = Some amount
issue_of f = None

-- the amount of an Absolve
abbrev pub absolve_of : Frame → Option ℕ
absolve_of (Absolve c amount) = Some amount
absolve_of f = None

-- the target of a Plead
abbrev pub target_of : Frame → Option ℕ
target_of (Plead c target) = Some target
target_of f = None

-- the bound of a limit on sending
abbrev pub send_bound_of : Frame → Option ℕ
send_bound_of (LimitSending c bound) = Some bound
send_bound_of f = None

-- the bound of a limit on receiving
abbrev pub receive_bound_of : Frame → Option ℕ
receive_bound_of (LimitReceiving c bound) = Some bound
receive_bound_of f = None

-- whether it is a Finish
abbrev pub is_finish : Frame → Bool
is_finish (Finish c) = true
is_finish f = false

-- the messages sent on a channel, in order
abbrev pub messages : Channel → List Frame → List (List ℕ)
messages c frames = filter_map message_of (on c frames)

-- the bytes sent on a channel: the sum of the lengths of its messages
abbrev pub cost : Channel → List Frame → ℕ
cost c frames = sum_by length (messages c frames)

-- the guarantees issued on a channel: the sum of the amounts
abbrev pub issued : Channel → List Frame → ℕ
issued c frames = sum (filter_map issue_of (on c frames))

-- the guarantees absolved on a channel: the sum of the amounts
abbrev pub absolved : Channel → List Frame → ℕ
absolved c frames = sum (filter_map absolve_of (on c frames))

-- the targets of the pleads on a channel, in order
abbrev pub pleads : Channel → List Frame → List ℕ
pleads c frames = filter_map target_of (on c frames)

-- whether a Finish of a channel is among the frames
abbrev pub finished : Channel → List Frame → Bool
finished c frames = list_any is_finish (on c frames)

-- the bound of the last limit in a list, and the frames after it
abbrev pub last_limit : (Frame → Option ℕ) → List Frame → Option (ℕ × List Frame)
last_limit bound_of [] = None
last_limit bound_of (f ∷ frames) = option_or (last_limit bound_of frames) (option_map (λ bound. (bound, frames)) (bound_of f))

-- what is left of the limit on sending: the bound of the last one less the bytes sent after it; None where there is none
abbrev pub send_left : Channel → List Frame → Option ℕ
send_left c frames = option_map (λ p. p.0 - cost c p.1) (last_limit send_bound_of (on c frames))

-- what is left of the limit on receiving: the bound of the last one less the guarantees issued after it; None where there is none
abbrev pub receive_left : Channel → List Frame → Option ℕ
receive_left c frames = option_map (λ p. p.0 - issued c p.1) (last_limit receive_bound_of (on c frames))
