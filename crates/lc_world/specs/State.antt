-- The state of two peers: the version of each stream, what each put on it, what of it has arrived, what of its messages was taken, and which pleads are kept. Streams that keep order, guarantees and their balances are LCMUX's; that one plead is kept for each channel, and none where it is finished, is this project's own.
use Rattle.std.specs.Prelude.{ℕ, ◌+◌, ◌-◌, nat_lt, if◌then◌else◌, List, [], ◌∷◌, ◌++◌, length, map, take, replicate, slice_index, slice_index_or, slice_set, sum_by, Option, Some, None}
use Rattle.lc_frame.specs.declared.version.Version.{Version}
use Rattle.lc_frame.specs.declared.version.Version.TheVariants.{One}
use Rattle.lc_frame.specs.declared.channel.Channel.{Channel}
use Rattle.lc_frame.specs.declared.channel.Channel.TheVariants.{Reconciliation, Data, Overlap, Capability, AreaOfInterest, PayloadRequest, StaticToken}
use Rattle.lc_frame.specs.declared.frame.Frame.{Frame}
use Rattle.lc_frame.specs.declared.frame.Frame.TheVariants.{Plead}
use Rattle.lc_frame.specs.Version.{greeting}
use Rattle.lc_frame.specs.Channel.{channel_count, number_of}
use Rattle.lc_frame.specs.Encoding.{encoding}
use Rattle.lc_frame.specs.Stream.{messages, finished}
use Rattle.lc_book.specs.Client.{Client, kept}
use Rattle.lc_book.specs.Server.{Server}
use Rattle.lc_book.specs.Sums.{client_of, server_of}
use Rattle.lc_world.specs.declared.event.Side.{Side}
use Rattle.lc_world.specs.declared.event.Side.TheVariants.{A, B}

-- the stream that one side writes, and what the other side has done with it: the stream's version, how many bytes of its greeting are in flight, the frames that arrived, those in flight behind them, how many bytes of the first of these were delivered, and by channel number how many messages it took, and the target of the plead that it keeps
pub record Line : Type 0 where
  pub version : Version
  pub greeting_left : ℕ
  pub arrived : List Frame
  pub in_flight : List Frame
  pub begun : ℕ
  pub taken : List ℕ
  pub asked : List (Option ℕ)

-- all frames that the side put
abbrev pub stream : Line → List Frame
stream l = l.arrived ++ l.in_flight

-- how many messages of a channel the other side took
abbrev pub taken_count : Channel → Line → ℕ
taken_count c l = slice_index l.taken (number_of c)

-- the target of the plead that the other side keeps on a channel
abbrev pub kept_plead : Channel → Line → Option ℕ
kept_plead c l = slice_index_or l.asked (number_of c) None

-- the messages that the other side took
abbrev pub taken_messages : Channel → Line → List (List ℕ)
taken_messages c l = take (taken_count c l) (messages c l.arrived)

-- the client's book of a channel, where the first line is the client's and the second the server's
abbrev pub client_book : Channel → Line → Line → Client
client_book c mine theirs = client_of mine.version c (stream mine) theirs.arrived (kept_plead c theirs)

-- the server's book, where the first line is the server's and the second the client's
abbrev pub server_book : ℕ → Channel → Line → Line → Server
server_book capacity c mine theirs = server_of capacity c (stream mine) theirs.arrived (sum_by length (taken_messages c theirs))

-- two peers, all of whose receiving rings have one capacity
pub record State : Type 0 where
  pub capacity : ℕ
  pub a : Line
  pub b : Line

-- the other of two sides
abbrev pub other : Side → Side
other A = B
other B = A

-- the line of the stream that a side writes
abbrev pub line : State → Side → Line
line w A = w.a
line w B = w.b

-- the book of a side as a channel's client
abbrev pub client : State → Side → Channel → Client
client w s c = client_book c (line w s) (line w (other s))

-- the book of a side as a channel's server
abbrev pub server : State → Side → Channel → Server
server w s c = server_book w.capacity c (line w s) (line w (other s))

-- a line on which nothing has happened: the greeting is in flight
abbrev pub new_line : Version → Line
new_line v = record { version = v; greeting_left = length (greeting v); arrived = []; in_flight = []; begun = 0; taken = replicate channel_count 0; asked = replicate channel_count None }

-- the versions of two streams, by the sides that write them
abbrev pub Versions : Type 0
Versions = Side → Version

-- the versions of a list, of which the first is side A's
abbrev pub by_side : List Version → Versions
by_side versions A = slice_index_or versions 0 One
by_side versions B = slice_index_or versions 1 One

-- two peers to whom nothing has happened: the greetings are in flight
abbrev pub opening : ℕ → Versions → State
opening capacity versions = record { capacity = capacity; a = new_line (versions A); b = new_line (versions B) }

-- a frame is put last
abbrev pub put_on : Line → Frame → Line
put_on l frame = record l { in_flight = l.in_flight ++ frame ∷ [] }

-- a plead that arrives is kept, in place of an older one
abbrev pub keep_pleads : Frame → List (Option ℕ) → List (Option ℕ)
keep_pleads (Plead c target) asked = slice_set asked (number_of c) (Some target)
keep_pleads f asked = asked

-- what the arrival of the first of the frames in flight leaves: it has arrived, and before it all of the greeting
abbrev pub arrive_first : Line → List Frame → Line
arrive_first l [] = l
arrive_first l (frame ∷ rest) = record l { greeting_left = 0; arrived = l.arrived ++ frame ∷ []; in_flight = rest; begun = 0; asked = keep_pleads frame l.asked }

-- the same of the line's own frames in flight
abbrev pub arrive_on : Line → Line
arrive_on l = arrive_first l l.in_flight

-- how many bytes a frame has in a version
abbrev pub size : Version → Frame → ℕ
size v f = length (encoding v f)

-- of the frames in flight so many bytes have been delivered: each frame whose last byte is among them arrives, and the rest of them are of the next
abbrev pub deliver_over : List Frame → ℕ → Line → Line
deliver_over [] n l = l
deliver_over (f ∷ rest) n l = if nat_lt n (size l.version f) then record l { begun = n } else deliver_over rest (n - size l.version f) (arrive_first l (f ∷ rest))

-- what a delivery of so many bytes leaves, or of as many as are in flight: those of the greeting come first, and then those of the frames
abbrev pub deliver_on : ℕ → Line → Line
deliver_on count l = deliver_over l.in_flight (l.begun + (count - l.greeting_left)) (record l { greeting_left = l.greeting_left - count })

-- the channels by their numbers
abbrev pub every_channel : List Channel
every_channel = Reconciliation ∷ Data ∷ Overlap ∷ Capability ∷ AreaOfInterest ∷ PayloadRequest ∷ StaticToken ∷ []

-- the second line, whose reader writes the first: it keeps no plead on a channel that it finished
abbrev pub forget_finished : Line → Line → Line
forget_finished mine theirs = record theirs { asked = map (λ c. kept (finished c (stream mine)) (kept_plead c theirs)) every_channel }

-- two lines as a state, the first as that of side A, and no plead kept on a finished channel
abbrev pub settled : ℕ → Line → Line → State
settled capacity a b = record { capacity = capacity; a = forget_finished b a; b = forget_finished a b }

-- one more message of the channel is taken
abbrev pub take_on : Channel → Line → Line
take_on c l = record l { taken = slice_set l.taken (number_of c) (taken_count c l + 1) }

-- the plead that is kept is forgotten
abbrev pub forget_on : Channel → Line → Line
forget_on c l = record l { asked = slice_set l.asked (number_of c) None }
