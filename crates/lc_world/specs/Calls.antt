-- What an own event is to the peer of its side, for src/endpoint.rt and src/act.rt.
use Rattle.std.specs.Prelude.{◌≡◌, ℕ, List, ◌++◌, replicate, Option, Some, None, IfSome, Result, Ok, Err}
use Rattle.lc_frame.specs.Stored.{nothing_stored}
use Rattle.lc_frame.specs.declared.version.Version.{Version}
use Rattle.lc_frame.specs.declared.channel.Channel.{Channel}
use Rattle.lc_frame.specs.declared.frame.Frame.{Frame}
use Rattle.lc_frame.specs.Version.{greeting}
use Rattle.lc_frame.specs.Encoding.{encoding}
use Rattle.lc_frame.specs.Channel.{channel_count}
use Rattle.lc_book.specs.declared.fault.Refusal.{Refusal}
use Rattle.lc_peer.specs.Peer.{PeerState, client}
use Rattle.lc_peer.specs.Calls.{refusal_by_books, put, put_honour}
use Rattle.lc_peer.specs.Config.{new_peer}
use Rattle.lc_world.specs.declared.endpoint.Endpoint.{Endpoint}
use Rattle.lc_world.specs.declared.event.Act.{Act}
use Rattle.lc_world.specs.declared.event.Act.TheVariants.{Send, Issue, Plead, Absolve, Honour, LimitSending, LimitReceiving, Finish, Arrive, Deliver, Take}
use Rattle.lc_world.specs.declared.event.Answer.{Answer}
use Rattle.lc_world.specs.declared.event.Answer.TheVariants.{Absolved, NothingToAbsolve, Refused}
use Rattle.lc_world.specs.Answers.{own_frame, judged, honoured, honour_answer, frame_put, IsUnlessMemory}

-- an end at which nothing has happened
pub record IsNewEnd (version : Version) (capacity : ℕ) (e : Endpoint) : Type 0 where
  pub peer : e.peer ≡ new_peer (record { version = version; capacities = replicate channel_count capacity; slots = 1 })
  pub stream : e.stream.items ≡ greeting version
  pub delivered : e.delivered ≡ 0
  pub decoder : e.decoder ≡ nothing_stored

-- a stream of bytes with a frame, if there is one, put last
abbrev pub with_next : Version → Option Frame → List ℕ → List ℕ
with_next v None bytes = bytes
with_next v (Some f) bytes = bytes ++ encoding v f

-- the channel of an own event
abbrev pub own_channel : Act → Option Channel
own_channel (Send c body) = Some c
own_channel (Issue c amount) = Some c
own_channel (Plead c target) = Some c
own_channel (Absolve c amount) = Some c
own_channel (Honour c) = Some c
own_channel (LimitSending c bound) = Some c
own_channel (LimitReceiving c bound) = Some c
own_channel (Finish c) = Some c
own_channel Arrive = None
own_channel (Deliver count) = None
own_channel (Take c) = None

-- a frame is put by a peer, if there is one
abbrev pub put_any_at : Option Frame → PeerState → PeerState
put_any_at None p = p
put_any_at (Some f) p = put p f

-- what an own event, so answered, leaves of the peer: an honour forgets the plead, else the frame alone changes it
abbrev pub after_call : Act → Answer → PeerState → PeerState
after_call (Honour c) (Absolved amount) p = put_honour p c
after_call (Honour c) NothingToAbsolve p = put_honour p c
after_call act answer p = put_any_at (frame_put act answer) p

-- the answer to an honour, by what the call returned
abbrev pub honour_returned : Result (Option ℕ) Refusal → Answer
honour_returned (Ok amount) = honoured amount
honour_returned (Err r) = Refused r

-- a call is answered by the books of its channel: a frame as they judge it, and an honour by its book too
abbrev pub IsCallAnswer : PeerState → Act → Answer → Type 0
IsCallAnswer p (Honour c) answer = IsUnlessMemory (Honour c) (honour_answer (client p c)) answer
IsCallAnswer p act answer = IfSome (own_frame act) (λ f. IsUnlessMemory act (judged (refusal_by_books p f)) answer)

-- a call of an own event was answered so, and left the peer so
pub record Called (p new : PeerState) (act : Act) (answer : Answer) : Type 0 where
  pub right : IsCallAnswer p act answer
  pub after : new ≡ after_call act answer p
