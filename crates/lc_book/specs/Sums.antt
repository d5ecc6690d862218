-- The books as sums over the streams of both sides, and what one frame more makes of them. That a book's balances are those of the frames on the streams is what LCMUX means by guarantees issued, used and absolved.
use Rattle.std.specs.Prelude.{◌≡◌, ℕ, ◌+◌, ◌<◌, ◌≤◌, List, [], ◌∷◌, ◌++◌, length, take, get_or, sum_by, false, Option, Some, None}
use Rattle.lc_frame.specs.declared.version.Version.{Version}
use Rattle.lc_frame.specs.declared.channel.Channel.{Channel}
use Rattle.lc_frame.specs.declared.frame.Frame.{Frame}
use Rattle.lc_frame.specs.declared.frame.Frame.TheVariants.{Send, Issue, Absolve, Plead, LimitSending, LimitReceiving, Finish}
use Rattle.lc_frame.specs.Channel.{channel_count, is_same, number_of}
use Rattle.lc_frame.specs.Frame.{channel_of, IsValid}
use Rattle.lc_frame.specs.Stream.{of_lane, messages, cost, issued as issued_on, absolved as absolved_on, send_left as send_left_on, receive_left as receive_left_on, finished as finished_on}
use Rattle.lc_book.specs.Client.{Client, IsClient, spend_refusal, spend, absolve_refusal, absolve, amount_to_absolve, kept, honour, limit_sending_refusal, limit_client, finish_refusal, finish, add_received, keep_plead, note_receive_limit}
use Rattle.lc_book.specs.Server.{Server, IsServer, buffered, issue_refusal, issue, plead_refusal, limit_receiving_refusal, limit_server, note_taken, add_arrived, add_absolved, note_send_limit, note_finish}

-- the client's book of a channel, by the version of its stream, all frames that it put, the frames that arrived at it, and the target of the plead that it keeps where it did not finish; it finished where a Finish of the channel is among the frames that it put
abbrev pub client_of : Version → Channel → List Frame → List Frame → Option ℕ → Client
client_of version c put arrived asked =
    record {
      version = version;
      received = issued_on c arrived;
      spent = cost c put;
      absolved = absolved_on c put;
      send_left = send_left_on c put;
      receive_left = receive_left_on c arrived;
      asked = kept (finished_on c put) asked;
      finished = finished_on c put;
    }

-- the server's book, by all frames that it put, the frames that arrived at it, and the bytes that were taken; it is finished where a Finish of the channel is among the frames that arrived
abbrev pub server_of : ℕ → Channel → List Frame → List Frame → ℕ → Server
server_of capacity c put arrived taken =
    record {
      capacity = capacity;
      issued = issued_on c put;
      arrived = cost c arrived;
      taken = taken;
      absolved = absolved_on c arrived;
      send_left = send_left_on c arrived;
      receive_left = receive_left_on c put;
      finished = finished_on c arrived;
    }

-- what a frame that a side put leaves of its book as client of the frame's channel
abbrev pub client_after_put : Frame → Client → Client
client_after_put (Send c body) b = spend b (length body)
client_after_put (Absolve c amount) b = absolve b amount
client_after_put (LimitSending c bound) b = limit_client b bound
client_after_put (Finish c) b = finish b
client_after_put f b = b

-- what a frame that arrived at a side leaves of its book as client of the frame's channel
abbrev pub client_after_arrival : Frame → Client → Client
client_after_arrival (Issue c amount) b = add_received b amount
client_after_arrival (Plead c target) b = keep_plead b target
client_after_arrival (LimitReceiving c bound) b = note_receive_limit b bound
client_after_arrival f b = b

-- what a frame that a side put leaves of its book as server of the frame's channel
abbrev pub server_after_put : Frame → Server → Server
server_after_put (Issue c amount) b = issue b amount
server_after_put (LimitReceiving c bound) b = limit_server b bound
server_after_put f b = b

-- what a frame that arrived at a side leaves of its book as server of the frame's channel
abbrev pub server_after_arrival : Frame → Server → Server
server_after_arrival (Send c body) b = add_arrived b (length body)
server_after_arrival (Absolve c amount) b = add_absolved b amount
server_after_arrival (LimitSending c bound) b = note_send_limit b bound
server_after_arrival (Finish c) b = note_finish b
server_after_arrival f b = b

-- the plead that is kept after a frame on its channel arrived
abbrev pub asked_after : Frame → Option ℕ → Option ℕ
asked_after (Plead c target) asked = Some target
asked_after f asked = asked

-- a client's book of sums is one again after a frame: by the frame's own effect on its channel, as it was on every other
pub record ClientKeepsSums (version : Version) (put arrived : List Frame) (asked : Option ℕ) (f : Frame) : Type 0 where
  pub put_here : client_after_put f (client_of version (channel_of f) put arrived asked) ≡ client_of version (channel_of f) (put ++ f ∷ []) arrived asked
  pub put_elsewhere : (c : Channel) → is_same c (channel_of f) ≡ false → client_of version c put arrived asked ≡ client_of version c (put ++ f ∷ []) arrived asked
  pub arrived_here : client_after_arrival f (client_of version (channel_of f) put arrived asked) ≡ client_of version (channel_of f) put (arrived ++ f ∷ []) (asked_after f asked)
  pub arrived_elsewhere : (c : Channel) → is_same c (channel_of f) ≡ false → client_of version c put arrived asked ≡ client_of version c put (arrived ++ f ∷ []) asked

-- the same of a server's book of sums
pub record ServerKeepsSums (capacity : ℕ) (put arrived : List Frame) (taken : ℕ) (f : Frame) : Type 0 where
  pub put_here : server_after_put f (server_of capacity (channel_of f) put arrived taken) ≡ server_of capacity (channel_of f) (put ++ f ∷ []) arrived taken
  pub put_elsewhere : (c : Channel) → is_same c (channel_of f) ≡ false → server_of capacity c put arrived taken ≡ server_of capacity c (put ++ f ∷ []) arrived taken
  pub arrived_here : server_after_arrival f (server_of capacity (channel_of f) put arrived taken) ≡ server_of capacity (channel_of f) put (arrived ++ f ∷ []) taken
  pub arrived_elsewhere : (c : Channel) → is_same c (channel_of f) ≡ false → server_of capacity c put arrived taken ≡ server_of capacity c put (arrived ++ f ∷ []) taken

-- every book of sums is one again after any frame that is put or arrives, on its channel and on every other
abbrev pub BooksKeepSums : Type 0
BooksKeepSums = (version : Version) (capacity : ℕ) (put arrived : List Frame) (asked : Option ℕ) (taken : ℕ) (f : Frame) → ClientKeepsSums version put arrived asked f × ServerKeepsSums capacity put arrived taken f

-- an honour that absolves is that absolving, and forgets the plead; one that does not only forgets it
pub record HonourKeepsSums (version : Version) (c : Channel) (put arrived : List Frame) (asked : Option ℕ) : Type 0 where
  pub absolves : (amount : ℕ) → amount_to_absolve (client_of version c put arrived asked) ≡ Some amount → honour (client_of version c put arrived asked) ≡ client_of version c (put ++ Absolve c amount ∷ []) arrived None
  pub forgets : amount_to_absolve (client_of version c put arrived asked) ≡ None → honour (client_of version c put arrived asked) ≡ client_of version c put arrived None

-- every client's book of sums is one again after an honour
abbrev pub EveryHonourKeepsSums : Type 0
EveryHonourKeepsSums = (version : Version) (c : Channel) (put arrived : List Frame) (asked : Option ℕ) → HonourKeepsSums version c put arrived asked

-- the bytes of the first messages on a channel, as many as were taken
abbrev pub taken_cost : Channel → List Frame → ℕ → ℕ
taken_cost c arrived count = sum_by length (take count (messages c arrived))

-- the first message that was not taken is buffered, a take of it leaves the book of one message more taken, and frames that arrive later leave those taken as they are
pub record TakeKeepsSums (capacity : ℕ) (c : Channel) (put arrived : List Frame) (count : ℕ) : Type 0 where
  pub waits : count < length (messages c arrived) → length (get_or (messages c arrived) count []) ≤ buffered (server_of capacity c put arrived (taken_cost c arrived count))
  pub takes : count < length (messages c arrived) → note_taken (server_of capacity c put arrived (taken_cost c arrived count)) (length (get_or (messages c arrived) count [])) ≡ server_of capacity c put arrived (taken_cost c arrived (count + 1))
  pub stays : (f : Frame) → count ≤ length (messages c arrived) → taken_cost c (arrived ++ f ∷ []) count ≡ taken_cost c arrived count

-- every server's book of sums is one again after a take
abbrev pub EveryTakeKeepsSums : Type 0
EveryTakeKeepsSums = (capacity : ℕ) (c : Channel) (put arrived : List Frame) (count : ℕ) → TakeKeepsSums capacity c put arrived count

-- the frame of an event that the book accepts is valid in the client's version
pub record PutsValidFrames (client : Client) (server : Server) (c : Channel) : Type 0 where
  pub send : (body : List ℕ) → spend_refusal client (length body) ≡ None → IsValid client.version (Send c body)
  pub absolve : (amount : ℕ) → absolve_refusal client amount ≡ None → IsValid client.version (Absolve c amount)
  pub honour : (amount : ℕ) → amount_to_absolve client ≡ Some amount → IsValid client.version (Absolve c amount)
  pub limit_sending : (bound : ℕ) → limit_sending_refusal client bound ≡ None → IsValid client.version (LimitSending c bound)
  pub finish : finish_refusal client ≡ None → IsValid client.version (Finish c)
  pub issue : (amount : ℕ) → issue_refusal server amount ≡ None → IsValid client.version (Issue c amount)
  pub plead : (target : ℕ) → plead_refusal server target ≡ None → IsValid client.version (Plead c target)
  pub limit_receiving : (bound : ℕ) → limit_receiving_refusal server bound ≡ None → IsValid client.version (LimitReceiving c bound)

-- whatever the books of a channel accept, the frame of it is valid in the client's version
abbrev pub EveryBookPutsValidFrames : Type 0
EveryBookPutsValidFrames = (client : Client) (server : Server) (c : Channel) → IsClient client → IsServer server → PutsValidFrames client server c

-- each sum over all frames is that over the frames of its lane
pub record SumsAreOfLanes (c : Channel) (frames : List Frame) : Type 0 where
  pub messages_are : messages c (of_lane (number_of c) frames) ≡ messages c frames
  pub cost_is : cost c (of_lane (number_of c) frames) ≡ cost c frames
  pub absolved_is : absolved_on c (of_lane (number_of c) frames) ≡ absolved_on c frames
  pub send_left_is : send_left_on c (of_lane (number_of c) frames) ≡ send_left_on c frames
  pub finished_is : finished_on c (of_lane (number_of c) frames) ≡ finished_on c frames
  pub issued_is : issued_on c (of_lane (channel_count + number_of c) frames) ≡ issued_on c frames
  pub receive_left_is : receive_left_on c (of_lane (channel_count + number_of c) frames) ≡ receive_left_on c frames

-- of every list of frames, each sum over all is that over the frames of its lane
abbrev pub EverySumIsOfItsLane : Type 0
EverySumIsOfItsLane = (c : Channel) (frames : List Frame) → SumsAreOfLanes c frames
