-- What the own calls of a peer answer and leave. A call is named by the frame that it would put; an honour has words of its own. Who may send, issue and absolve what is LCMUX's; the order of refusals is this project's own.
use Rattle.std.specs.Prelude.{◌≡◌, ℕ, ◌⊎◌, nat_lt, false, if◌then◌else◌, List, [], ◌∷◌, ◌++◌, length, drop, slice_get, Option, Some, None}
use Rattle.std.specs.Option.{option_or}
use Rattle.lc_frame.specs.declared.channel.Channel.{Channel}
use Rattle.lc_frame.specs.declared.frame.Frame.{Frame}
use Rattle.lc_frame.specs.declared.frame.Frame.TheVariants.{Send, Issue, Absolve, Plead, LimitSending, LimitReceiving, Finish}
use Rattle.lc_frame.specs.Channel.{is_same}
use Rattle.lc_frame.specs.Frame.{channel_of}
use Rattle.lc_book.specs.declared.fault.Refusal.{Refusal}
use Rattle.lc_book.specs.declared.fault.Refusal.TheVariants.{QueueFull, OutOfMemory}
use Rattle.lc_book.specs.Client.{Client, spend_refusal, absolve_refusal, amount_to_absolve, honour_refusal as book_honour_refusal, honour, limit_sending_refusal, finish_refusal}
use Rattle.lc_book.specs.Server.{Server, issue_refusal, plead_refusal, limit_receiving_refusal}
use Rattle.lc_book.specs.Sums.{client_after_put, server_after_put}
use Rattle.lc_peer.specs.declared.channel_state.ChannelState.{ChannelState}
use Rattle.lc_peer.specs.declared.inbox.Take.{Take}
use Rattle.lc_peer.specs.Inbox.{take_first, Takes}
use Rattle.lc_peer.specs.Peer.{PeerState, channel, client, inbox, server, set_channel}

-- why a frame may not be put, by the books of its channel: the first refusal that holds
abbrev pub book_refusal : Client → Server → Frame → Option Refusal
book_refusal client server (Send c body) = spend_refusal client (length body)
book_refusal client server (Issue c amount) = issue_refusal server amount
book_refusal client server (Absolve c amount) = absolve_refusal client amount
book_refusal client server (Plead c target) = plead_refusal server target
book_refusal client server (LimitSending c bound) = limit_sending_refusal client bound
book_refusal client server (LimitReceiving c bound) = limit_receiving_refusal server bound
book_refusal client server (Finish c) = finish_refusal client

-- the same of a peer, by its books of the frame's channel
abbrev pub refusal_by_books : PeerState → Frame → Option Refusal
refusal_by_books p f = book_refusal (client p (channel_of f)) (server p (channel_of f)) f

-- 13 where no frame more can wait
abbrev pub queue_refusal : PeerState → Option Refusal
queue_refusal p = if nat_lt (length p.waiting) p.slots then None else Some QueueFull

-- what an own call answers, by the frame that it would put: the books come first, and then 13
abbrev pub refusal : PeerState → Frame → Option Refusal
refusal p f = option_or (refusal_by_books p f) (queue_refusal p)

-- a send alone may also want memory, where its book has no refusal; it asks for it before it looks for a place
abbrev pub IsSendAnswer : PeerState → Frame → Option Refusal → Type 0
IsSendAnswer p f answer = (answer ≡ refusal p f) ⊎ ((refusal_by_books p f ≡ None) × (answer ≡ Some OutOfMemory))

-- what an own frame leaves of its channel
abbrev pub channel_after_put : Frame → ChannelState → ChannelState
channel_after_put f s = record { client = client_after_put f s.client; inbox = record s.inbox { book = server_after_put f s.inbox.book } }

-- what an accepted call leaves: the channel of its frame goes on, and that waits as the last
abbrev pub put : PeerState → Frame → PeerState
put p f = record (set_channel p (channel_of f) (channel_after_put f (channel p (channel_of f)))) { waiting = p.waiting ++ f ∷ [] }

-- what an honour on the channel would absolve
abbrev pub due : PeerState → Channel → Option ℕ
due p c = amount_to_absolve (client p c)

-- 13 where no frame more can wait and an honour would put one
abbrev pub absolving_refusal : PeerState → Option ℕ → Option Refusal
absolving_refusal p None = None
absolving_refusal p (Some amount) = queue_refusal p

-- why an honour on the channel is refused, which then keeps the plead: the book comes first
abbrev pub honour_refusal : PeerState → Channel → Option Refusal
honour_refusal p c = option_or (book_honour_refusal (client p c)) (absolving_refusal p (due p c))

-- the absolving of an amount, where there is one
abbrev pub absolvings : Channel → Option ℕ → List Frame
absolvings c None = []
absolvings c (Some amount) = Absolve c amount ∷ []

-- what an honour leaves of its channel: the plead is forgotten
abbrev pub channel_after_honour : ChannelState → ChannelState
channel_after_honour s = record s { client = honour s.client }

-- an honour forgets the plead, and puts the absolving of what it absolves, if anything
abbrev pub put_honour : PeerState → Channel → PeerState
put_honour p c = record (set_channel p c (channel_after_honour (channel p c))) { waiting = p.waiting ++ absolvings c (due p c) }

-- what a take on the channel leaves
abbrev pub take_on : PeerState → Channel → PeerState
take_on p c = set_channel p c (record (channel p c) { inbox = take_first (inbox p c) })

-- what an answer says of a peer before a take on the channel and after it: of its inbox, and that nothing else changed
pub record TakesOn (c : Channel) (take : Take) (old new : PeerState) : Type 0 where
  pub inbox : Takes take (inbox old c) (inbox new c)
  pub client : client new c ≡ client old c
  pub elsewhere : (d : Channel) → is_same d c ≡ false → channel new d ≡ channel old d
  pub version : new.version ≡ old.version
  pub waiting : new.waiting ≡ old.waiting
  pub slots : new.slots ≡ old.slots
  pub capacities : new.capacities ≡ old.capacities

-- the frame that goes out next, where one waits
abbrev pub next : PeerState → Option Frame
next p = slice_get p.waiting 0

-- the peer without that frame
abbrev pub without_next : PeerState → PeerState
without_next p = record p { waiting = drop 1 p.waiting }
