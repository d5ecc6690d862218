-- What frames that arrive at a peer leave, up to the first that violates the rules. The violations of guarantees and limits are this project's own.
use Rattle.std.specs.Prelude.{ℕ, ◌+◌, List, [], ◌∷◌, length, Option, Some, None}
use Rattle.lc_frame.specs.declared.frame.Frame.{Frame}
use Rattle.lc_frame.specs.declared.frame.Frame.TheVariants.{Send, Issue, Absolve, Plead, LimitSending, LimitReceiving, Finish}
use Rattle.lc_frame.specs.Frame.{channel_of}
use Rattle.lc_book.specs.declared.fault.Violation.{Violation}
use Rattle.lc_book.specs.Client.{Client, issued_violation, receive_limit_violation}
use Rattle.lc_book.specs.Server.{Server, message_violation, absolve_violation, send_limit_violation, finish_violation}
use Rattle.lc_book.specs.Sums.{client_after_arrival, server_after_arrival}
use Rattle.lc_ring.specs.Ring.{Ring, push}
use Rattle.lc_peer.specs.declared.channel_state.ChannelState.{ChannelState}
use Rattle.lc_peer.specs.Peer.{PeerState, channel, client, server, set_channel}

-- the violation of a frame, by the books of its channel at the side where it arrives
abbrev pub violation : Client → Server → Frame → Option Violation
violation client server (Send c body) = message_violation server (length body)
violation client server (Issue c amount) = issued_violation client amount
violation client server (Absolve c amount) = absolve_violation server amount
violation client server (Plead c target) = None
violation client server (LimitSending c bound) = send_limit_violation server bound
violation client server (LimitReceiving c bound) = receive_limit_violation client bound
violation client server (Finish c) = finish_violation server

-- the same at a peer, by its books of the frame's channel
abbrev pub violation_at : PeerState → Frame → Option Violation
violation_at p f = violation (client p (channel_of f)) (server p (channel_of f)) f

-- the message of a frame, if it has one, waits as the last
abbrev pub ring_after_arrival : Frame → Ring → Ring
ring_after_arrival (Send c body) ring = push ring body
ring_after_arrival f ring = ring

-- what a lawful frame leaves of its channel
abbrev pub channel_after_arrival : Frame → ChannelState → ChannelState
channel_after_arrival f s = record {
  client = client_after_arrival f s.client;
  inbox = record { book = server_after_arrival f s.inbox.book; ring = ring_after_arrival f s.inbox.ring };
}

-- what a lawful frame leaves of a peer: its channel goes on, and every other is as it was
abbrev pub arrive : PeerState → Frame → PeerState
arrive p f = set_channel p (channel_of f) (channel_after_arrival f (channel p (channel_of f)))

-- what came of a list of frames: how many of them arrived, what they left, and the violation of the one after them, if it stopped there
pub record Arrival : Type 0 where
  pub count : ℕ
  pub peer : PeerState
  pub violation : Option Violation

-- what comes of frames by the violation of the first: where it has none, one more than of those after it; else none
abbrev pub arrive_unless : PeerState → Option Violation → Arrival → Arrival
arrive_unless p None later = record later { count = later.count + 1 }
arrive_unless p (Some v) later = record { count = 0; peer = p; violation = Some v }

-- what comes of a list of frames: they arrive in order, up to the first that violates, by the books that those before it left; that one and those after it change nothing
abbrev pub arrivals : PeerState → List Frame → Arrival
arrivals p [] = record { count = 0; peer = p; violation = None }
arrivals p (f ∷ frames) = arrive_unless p (violation_at p f) (arrivals (arrive p f) frames)
