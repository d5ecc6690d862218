-- What a side does, step by step, and what each step is to the inbox of a channel. That a side writes one stream and reads another is LCMUX's; the steps are this project's own.
use Rattle.std.specs.Prelude.{ℕ, ◌+◌, ◌==◌, if◌then◌else◌, Bool, true, false, List, length, filter, sum_by, Option, Some, None}
use Rattle.std.specs.List.{filter_map}
use Rattle.lc_frame.specs.declared.version.Version.{Version}
use Rattle.lc_frame.specs.declared.channel.Channel.{Channel}
use Rattle.lc_frame.specs.declared.frame.Frame.{Frame}
use Rattle.lc_frame.specs.Channel.{channel_count, number_of, is_same}
use Rattle.lc_frame.specs.Frame.{lane_of}
use Rattle.lc_book.specs.Client.{Client}
use Rattle.lc_book.specs.Server.{Server}
use Rattle.lc_book.specs.Sums.{client_of, server_of}
use Rattle.lc_inbox.specs.declared.history.Entry.{Entry}
use Rattle.lc_inbox.specs.declared.history.Entry.TheVariants.{Heard, Refused, Put, Took}

-- a side puts a frame on its stream, hears one of the other's, or takes a message of a channel
pub data Step : Type 0 where
  puts : Frame → Step
  hears : Frame → Step
  takes : Channel → List ℕ → Step

-- the frame that a step puts
abbrev pub put_of : Step → Option Frame
put_of (puts f) = Some f
put_of (hears f) = None
put_of (takes c body) = None

-- the frame that a step hears
abbrev pub heard_of : Step → Option Frame
heard_of (puts f) = None
heard_of (hears f) = Some f
heard_of (takes c body) = None

-- the message of a channel that a step takes
abbrev pub took_of : Channel → Step → Option (List ℕ)
took_of c (puts f) = None
took_of c (hears f) = None
took_of c (takes d body) = if is_same c d then Some body else None

-- the frames that a side put, in order
abbrev pub put : List Step → List Frame
put steps = filter_map put_of steps

-- the frames that a side heard, in order
abbrev pub heard : List Step → List Frame
heard steps = filter_map heard_of steps

-- the messages of a channel that a side took, in order
abbrev pub took : Channel → List Step → List (List ℕ)
took c steps = filter_map (took_of c) steps

-- what a step is in the history of a channel's inbox, if it is there: the server's frames are put there, the client's are heard there, and its messages are taken there
abbrev pub entry_of : Channel → Step → Option Entry
entry_of c (puts f) = if lane_of f == channel_count + number_of c then Some (Put f) else None
entry_of c (hears f) = if lane_of f == number_of c then Some (Heard f) else None
entry_of c (takes d body) = if is_same c d then Some (Took body) else None

-- what the steps are in the history of a channel's inbox
abbrev pub entries : Channel → List Step → List Entry
entries c steps = filter_map (entry_of c) steps

-- whether an entry changes the inbox: a refusal does not
abbrev pub changes : Entry → Bool
changes (Refused f) = false
changes e = true

-- the history of an inbox without the frames that it refused, which changed nothing
abbrev pub without_refusals : List Entry → List Entry
without_refusals history = filter changes history

-- the client's book of a channel of a side, by what it did, and the version of its stream
abbrev pub client_then : Version → Channel → List Step → Client
client_then version c steps = client_of version c (put steps) (heard steps) None

-- the server's book of a channel of a side, by what it did
abbrev pub server_then : ℕ → Channel → List Step → Server
server_then capacity c steps = server_of capacity c (put steps) (heard steps) (sum_by length (took c steps))
